-- Whether a table is complete, by its run and by what was left out.
use Rattle.std.proofs.Common.{◌≡◌, Bool, true, false, List, [], ◌∷◌, length, refl, sym, ◌∙◌, arith}
use Rattle.std.specs.Prelude.{◌↔◌, ◌==◌, IsTrue}
use Rattle.std.proofs.lemmas.Bool.Decides.{nat_tests}
use Rattle.std.specs.declared.alloc.Global.{Global}
use Rattle.std.specs.declared.string.String.{String}

pub never_complete : (took : Bool) (Went : Type 0) (names : List (String Global)) → took ≡ false → (IsTrue took ↔ Went) → IsTrue false ↔ (Went × (names ≡ []))
never_complete took Went names is went = ((λ yes. absurd cc), λ both. sym is ∙ went.1 both.0)

pub complete_if_empty : (took empty : Bool) (Went : Type 0) (names : List (String Global)) → took ≡ true → (IsTrue took ↔ Went) → empty ≡ (length names == 0) → IsTrue empty ↔ (Went × (names ≡ []))
complete_if_empty took empty Went [] is went none = ((λ yes. (went.0 is, refl)), λ both. none)
complete_if_empty took empty Went (name ∷ names) is went none = (
  (λ yes.
      let test : (length (name ∷ names) == 0) ≡ true = sym none ∙ yes in
      let zero : length (name ∷ names) ≡ 0 = grind (arith, nat_tests) in
      absurd (omega (arith, zero))),
  λ both. let no = both.1 in absurd cc,
)
