-- What is found in the items of a list, one after another.
use Rattle.std.proofs.Common.{◌≡◌, List, [], ◌∷◌, ◌++◌, length, refl, sym, subst, ap, ◌∙◌, append_assoc, append-nil, inl, inr, arith}
use Rattle.tables_folder.specs.FoundPeriods.{Finds}

module _ {A B : Type 0} (HasNone : A → Type 0) (Has : A → B → Type 0) where
  -- what is found in the items that are left comes after what was found
  abbrev pub SoFar : List A → List A → List B → Type 0
  SoFar all left found = (more : List B) → Finds HasNone Has left more → Finds HasNone Has all (found ++ more)

  module _ (all left rest : List A) (found : List B) (a : A) (split : left ≡ a ∷ rest) (so_far : SoFar all left found) where
    pub found_one : (longer : List B) (b : B) → Has a b → longer ≡ found ++ b ∷ [] → SoFar all rest longer
    found_one longer b has is more later =
        subst (Finds HasNone Has all) (sym (append_assoc found (b ∷ []) more) ∙ ap (λ (t : List B). t ++ more) (sym is))
        (so_far (b ∷ more) (subst (λ (t : List A). Finds HasNone Has t (b ∷ more)) (sym split) (inr (b, more, has, refl, later))))

    pub found_none : HasNone a → SoFar all rest found
    found_none none more later = so_far more (subst (λ (t : List A). Finds HasNone Has t more) (sym split) (inl (none, later)))

  none_left : (left : List A) → length left ≡ 0 → Finds HasNone Has left []
  none_left [] empty = refl
  none_left (a ∷ as') empty = absurd (omega arith)

  pub found_all : (all left : List A) (found : List B) → length left ≡ 0 → SoFar all left found → Finds HasNone Has all found
  found_all all left found empty so_far = subst (Finds HasNone Has all) (append-nil found) (so_far [] (none_left left empty))
