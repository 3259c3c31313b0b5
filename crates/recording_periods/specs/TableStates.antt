-- When the table of a finished period is due.
use Rattle.std.specs.Prelude.{◌≡◌, ◌≢◌, ℕ, List, [], ◌++◌, codes, All, Any, Option, None, Some, string_bytes}
use Rattle.std.specs.declared.alloc.Global.{Global}
use Rattle.std.specs.declared.string.String.{String}
use Rattle.recording_periods.specs.Firsts.{IsFirst}
use Rattle.recording_periods.specs.declared.due_tables.TableState.{TableState}
use Rattle.recording_periods.specs.declared.due_tables.TableState.TheVariants.{Due, UpToDate, Gone}

-- a path to a file of this name, in any folder
abbrev pub IsPathTo : List ℕ → List ℕ → Type 0
IsPathTo name path = (folder : List ℕ) × (path ≡ folder ++ (codes "/" ++ name))

-- a path of a receipt is to one of these files, or its file is gone
abbrev pub IsListed : List (String Global) → String Global → Type 0
IsListed files path = Any (λ name. IsPathTo (string_bytes name) (string_bytes path)) files

abbrev pub IsGone : List (String Global) → String Global → Type 0
IsGone files path = All (λ name. ¬ IsPathTo (string_bytes name) (string_bytes path)) files

-- the first of these paths whose file is gone
abbrev pub IsFirstGone : List (String Global) → List (String Global) → List ℕ → Type 0
IsFirstGone files = IsFirst (IsListed files) (IsGone files)

-- a file is one of those that a receipt names, or it came later
abbrev pub IsNamed : List (String Global) → String Global → Type 0
IsNamed paths name = Any (λ path. IsPathTo (string_bytes name) (string_bytes path)) paths

abbrev pub IsLate : List (String Global) → String Global → Type 0
IsLate paths name = All (λ path. ¬ IsPathTo (string_bytes name) (string_bytes path)) paths

-- with no receipt a table is due if there are files; with one it is if all of its files are there, and another one, too. A file of
-- the receipt that is gone never makes it due. At most one of the three is so
abbrev pub IsTableState : List (String Global) → Option (List (String Global)) → TableState → Type 0
IsTableState files None Due = files ≢ []
IsTableState files None UpToDate = files ≡ []
IsTableState files None (Gone path) = ⊥
IsTableState files (Some paths) Due = All (IsListed files) paths × Any (IsLate paths) files
IsTableState files (Some paths) UpToDate = All (IsListed files) paths × All (IsNamed paths) files
IsTableState files (Some paths) (Gone path) = IsFirstGone files paths path.now
