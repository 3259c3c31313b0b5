-- Whether a table is complete from which inputs were left out.
use Rattle.std.proofs.Common.{◌≡◌, ℕ, Bool, false, List, [], ◌∷◌, length, refl, arith}
use Rattle.receipt_differences.specs.Remade.{complete_with}

pub complete_without : (complete : Bool) (names : List (List ℕ)) → length names ≡ 0 → complete_with complete names ≡ complete
complete_without complete [] none = refl
complete_without complete (name ∷ names) none = absurd (omega arith)

pub incomplete_with : (complete : Bool) (names : List (List ℕ)) → (length names ≡ 0 → ⊥) → complete_with complete names ≡ false
incomplete_with complete [] some = absurd (some refl)
incomplete_with complete (name ∷ names) some = refl
