-- The paths of files in a folder of recordings.
use Rattle.std.specs.Prelude.{◌≡◌, ℕ, List, ◌++◌, codes}
use Rattle.std.specs.String.{string_bytes}
use Rattle.recording_names.specs.FinishedNames.{IsCopy, name_of_finished}
use Rattle.recording_names.specs.PeriodNames.{IsPeriodName}
use Rattle.recording_names.specs.UnfinishedNames.{name_of_unfinished}
use Rattle.recording_names.specs.declared.period.Period.{Period}
use Rattle.recording_folder.specs.declared.folder.Folder.{Folder}

-- of what has a name in a folder
abbrev pub in_folder : List ℕ → List ℕ → List ℕ
in_folder folder name = folder ++ (codes "/" ++ name)

-- of a session's file that isn't finished, in the folder of those, by its period
abbrev pub IsUnfinishedPath : Folder → Period → List ℕ → List ℕ → Type 0
IsUnfinishedPath folder period session path = path ≡ in_folder (string_bytes folder.unfinished) (name_of_unfinished period.begins session)

-- of a session's file that is finished, in a folder; a number is in its name where others were there already
abbrev pub finished_path : List ℕ → List ℕ → ℕ → List ℕ
finished_path folder session copy = in_folder folder (name_of_finished session copy)

-- of a finished one in the folder of its period: its first name, or one with a number
abbrev pub IsPathIn : List ℕ → List ℕ → List ℕ → Type 0
IsPathIn folder session path = (copy : ℕ) × IsCopy copy × (path ≡ finished_path folder session copy)

-- in the folder of the recordings, by the name of its period
pub record IsFinalPath (folder : Folder) (period : Period) (session path : List ℕ) : Type 0 where
  pub name : List ℕ
  pub is_named : IsPeriodName period.begins name
  pub is_there : IsPathIn (in_folder (string_bytes folder.path) name) session path
