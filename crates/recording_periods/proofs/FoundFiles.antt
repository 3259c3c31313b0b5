-- Finished files that are found among names.
use Rattle.std.proofs.Common.{◌≡◌, List, [], ◌∷◌, ◌++◌, refl, sym, subst, ap, ◌∙◌, append_assoc, append-nil, inr, string_bytes}
use Rattle.std.specs.declared.alloc.Global.{Global}
use Rattle.std.specs.declared.string.String.{String}
use Rattle.recording_names.specs.FinishedNames.{IsFinishedName}
use Rattle.recording_periods.specs.PeriodFiles.{AreFinishedOf}

-- what is found of those that are left makes that of all
abbrev pub SoFar : List (String Global) → List (String Global) → List (String Global) → Type 0
SoFar all left files = (found : List (String Global)) → AreFinishedOf left found → AreFinishedOf all (files ++ found)

module _ (all left rest files more : List (String Global)) (name : String Global) (split : left ≡ name ∷ rest) (so_far : SoFar all left files) where
  pub found_one : IsFinishedName (string_bytes name) → more ≡ files ++ name ∷ [] → SoFar all rest more
  found_one finished is found later =
      subst (AreFinishedOf all) (sym (append_assoc files (name ∷ []) found) ∙ ap (λ (t : List (String Global)). t ++ found) (sym is))
      (so_far (name ∷ found) (subst (λ (t : List (String Global)). AreFinishedOf t (name ∷ found)) (sym split) (inr (found, finished, refl, later))))

pub found_all : (all files : List (String Global)) → SoFar all [] files → AreFinishedOf all files
found_all all files so_far = subst (AreFinishedOf all) (append-nil files) (so_far [] refl)
