-- The line of a folder that can't be opened.
use Rattle.std.specs.Prelude.{List, ℕ, Bool, true, false, ◌++◌, codes, if◌then◌else◌}
use Rattle.std.specs.IoError.{error_kind}
use Rattle.std.specs.declared.io.ErrorKind.{ErrorKind}
use Rattle.std.specs.declared.io.ErrorKind.TheVariants as kind
use Rattle.recording_folder.specs.declared.folder.FolderFault.{FolderFault}
use Rattle.recording_folder.specs.declared.folder.FolderFault.TheVariants.{InUse, NotHad}
use Rattle.report_writing.specs.FaultLines.{not_had_line}
use Rattle.report_writing.specs.Reasons.{reason_of, words_of}

unfoldable pub file_line : List ℕ → List ℕ
file_line path = codes "collectd: folder: " ++ (path ++ codes ": it is a file\n")

-- it, or one in which it is, is a file
abbrev pub is_file : ErrorKind → Bool
is_file kind.NotADirectory = true
is_file kind.AlreadyExists = true
is_file _ = false

-- what the system answers of it
abbrev pub refused_line : List ℕ → ErrorKind → List ℕ
refused_line path refused =
    if is_file refused then file_line path else not_had_line (codes "folder") (path ++ (codes ": " ++ words_of (reason_of refused)))

abbrev pub folder_line : List ℕ → FolderFault → List ℕ
folder_line path InUse = not_had_line (codes "folder in use") path
folder_line path (NotHad error) = refused_line path (error_kind error)
