-- The files that an earlier run left in a folder.
use Rattle.std.specs.Prelude.{◌≡◌, ⊤, ℕ, List, Option, Result, Ok}
use Rattle.std.specs.declared.io.Error.{Error}
use Rattle.recording_files.specs.Notices.{FileNotice}
use Rattle.recording_folder.specs.Folders.{IsFolderAt}
use Rattle.recording_folder.specs.Recoveries.{AllAreLookedAfter}
use Rattle.recording_folder.specs.declared.folder.Folder.{Folder}
use Rattle.recording_lines.specs.RecordLines.{notice_line}
use Rattle.recording_lines.specs.WholeLines.{written_with}
use Rattle.recording_lines.specs.declared.whole_lines.WholeLines.{WholeLines}
use Rattle.report_writing.specs.Writing.{Tells}

module _ {E F : Type 0} (seen : F → Option (List ℕ)) (contents : E → Option (List ℕ)) where
  -- what was written, and the line that has begun
  abbrev pub text_of : WholeLines E → Option (List ℕ)
  text_of lines = written_with (contents lines.out) lines.line.items

  -- what is told of a file is its line
  abbrev pub TellsNotice : WholeLines E → FileNotice → Result (Unit {0}) Error → WholeLines E → Type 0
  TellsNotice before notice told after = Tells (λ lines. record { contents = text_of lines; failed = ⊤ }) before after told (notice_line notice)

  -- all in a folder were looked after, each that is told of by a line to this writer, and so many stay unfinished
  abbrev pub AreLookedIn : Folder → E → ℕ → Type 0
  AreLookedIn folder out stayed =
      (before : WholeLines E) × (text_of before ≡ contents out) × (after : WholeLines E) × AllAreLookedAfter seen TellsNotice folder before after (Ok stayed)

  -- the folder has this path
  abbrev pub AreLookedAfter : List ℕ → E → ℕ → Type 0
  AreLookedAfter path out stayed = (folder : Folder) × IsFolderAt path folder × AreLookedIn folder out stayed
