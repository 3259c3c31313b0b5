-- The paths of the files of a period.
use Rattle.std.specs.Prelude.{◌≡◌, ℕ, List, ◌++◌, codes, map, string_bytes}
use Rattle.std.specs.Borrow.{Bor}
use Rattle.std.specs.declared.alloc.Global.{Global}
use Rattle.std.specs.declared.string.String.{String}
use Rattle.recording_names.specs.PeriodNames.{IsPeriodName}

-- of a file in the folder of a period in a folder of recordings
abbrev pub path_of : List ℕ → String Global → String Global → List ℕ
path_of recordings name file = recordings ++ (codes "/" ++ (string_bytes name ++ (codes "/" ++ string_bytes file)))

-- of these files in the folder of this name, in their order
abbrev pub ArePathsIn : List ℕ → String Global → List (String Global) → List (String Global) → Type 0
ArePathsIn recordings name files paths = map string_bytes paths ≡ map (path_of recordings name) files

-- in that of the period that begins then
abbrev pub AreFilePaths : List ℕ → ℕ → List (String Global) → List (String Global) → Type 0
AreFilePaths recordings begins files paths = (name : String Global) × IsPeriodName begins (string_bytes name) × ArePathsIn recordings name files paths

-- the texts of words
abbrev pub texts_of : List (Bor (List ℕ)) → List (List ℕ)
texts_of words = map (λ (word : Bor (List ℕ)). word.now) words
