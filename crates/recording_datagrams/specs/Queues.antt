-- Files that wait in a queue to be finished.
use Rattle.std.specs.Prelude.{◌≡◌, ◌⊎◌, Result, IsOk}
use Rattle.recording_folder.specs.declared.ended_file.EndedFile.{EndedFile}
use Rattle.recording_folder.specs.declared.ended_file.FailedFile.{FailedFile}

-- a file was put into a queue, where it is another thread's, or finished at once
abbrev pub IsFinishedOrQueued : {F K : Type 0} → (K → EndedFile F → Result (Unit {0}) (FailedFile F) → K → Type 0) → K → EndedFile F → Result (Unit {0}) (FailedFile F) → K → Type 0
IsFinishedOrQueued finishes before ended result after = (IsOk result × (after ≡ before)) ⊎ finishes before ended result after
