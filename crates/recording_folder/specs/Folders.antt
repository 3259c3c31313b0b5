-- Folders of recordings.
use Rattle.std.specs.Prelude.{◌≡◌, ℕ, List, codes}
use Rattle.std.specs.String.{string_bytes}
use Rattle.recording_folder.specs.Paths.{in_folder}
use Rattle.recording_folder.specs.declared.folder.Folder.{Folder}

-- it has this path, and what isn't finished is in the folder of that name in it
pub record IsFolderAt (path : List ℕ) (folder : Folder) : Type 0 where
  pub path_is : string_bytes folder.path ≡ path
  pub unfinished_is : string_bytes folder.unfinished ≡ in_folder path (codes "unfinished")
