-- What is told of files.
use Rattle.std.specs.Prelude.{ℕ, List}
use Rattle.recording_files.specs.declared.file_report.FileReport.{FileReport}
use Rattle.recording_files.specs.declared.finished_files.Recovered.{Recovered}

pub data FileNotice : Type 0 where
  -- a session's file was finished: its path, and what it has
  Finished : (path : List ℕ) (report : FileReport) → FileNotice
  -- a session's file could not be finished, and stays at this path
  NotFinished : (path : List ℕ) → FileNotice
  -- what became of a file that an earlier run left: its path now or last
  LookedAfter : (path : List ℕ) (outcome : Recovered) → FileNotice
