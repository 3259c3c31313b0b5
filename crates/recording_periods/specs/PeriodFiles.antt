-- The finished files of a period, by the names in its folder.
use Rattle.std.specs.Prelude.{◌≡◌, ◌⊎◌, ℕ, List, [], ◌∷◌, IsPermutation, IsSorted, string_bytes}
use Rattle.std.specs.String.{string_cmp}
use Rattle.std.specs.declared.alloc.Global.{Global}
use Rattle.std.specs.declared.string.String.{String}
use Rattle.recording_names.specs.FinishedNames.{IsFinishedName}

-- of these names exactly those of finished files, in the same order
abbrev pub AreFinishedOf : List (String Global) → List (String Global) → Type 0
AreFinishedOf [] kept = kept ≡ []
AreFinishedOf (name ∷ names) kept =
    (¬ IsFinishedName (string_bytes name) × AreFinishedOf names kept)
    ⊎ ((rest : List (String Global)) × IsFinishedName (string_bytes name) × (kept ≡ name ∷ rest) × AreFinishedOf names rest)

-- the same, by the order of their octets
pub record AreFilesOf (names files : List (String Global)) : Type 0 where
  pub found : List (String Global)
  pub finished : AreFinishedOf names found
  pub all : IsPermutation found files
  pub in_order : IsSorted string_cmp files
