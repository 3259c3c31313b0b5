-- Lists of which no two are the same, in any order.
use Rattle.std.proofs.Common.{◌≡◌, Bool, true, false, List, [], ◌∷◌, ◌++◌, Option, Some, None, refl, sym, ap, subst, ◌∙◌, inl, inr, append-nil, append_assoc}
use Rattle.std.specs.Prelude.{not, find}
use Rattle.std.specs.List.{list_any}
use Rattle.std.specs.Option.{option_or}
use Rattle.std.proofs.lemmas.Bool.{cases_Bool, and_parts, and_from, not-true, both_ways, or_left, or_right, or_parts, or_from}
use Rattle.std.proofs.lemmas.List.Folds.{list_any-append, find-append}
use Rattle.std.proofs.lemmas.Option.{same_Some}
use Rattle.ipfix_elements.proofs.Lookups.{ComparesKeys, are_distinct, find_head, find_rest, find_passes, cases_Option}

-- whichever of two stands first
same_back : {X : Type 0} (same : X → X → Bool) → ComparesKeys same → (x y : X) → same x y ≡ true → same y x ≡ true
same_back same keys x y h = keys.alike x y h y ∙ keys.itself y

pub not_false : (x : Bool) → x ≡ false → not x ≡ true
not_false false h = refl
not_false true h = absurd cc

-- the first put after the others
pub turned : {X : Type 0} (same : X → X → Bool) → ComparesKeys same → (x : X) (ks : List X) → are_distinct same (x ∷ ks) ≡ true → are_distinct same (ks ++ x ∷ []) ≡ true
turned same keys x [] h = h
turned same keys x (k ∷ ks) h =
    let outer = and_parts (not (list_any (λ y. same y x) (k ∷ ks))) (are_distinct same (k ∷ ks)) h in
    let inner = and_parts (not (list_any (λ y. same y k) ks)) (are_distinct same ks) outer.1 in
    let free = or_parts (same k x) (list_any (λ y. same y x) ks) (not-true _ outer.0) in
    let other : same x k ≡ false =
    elim (cases_Bool (same x k)) [
      | inl e ↦ absurd (both_ways (same k x) free.0 (same_back same keys x k e))
      | inr e ↦ e
    ] in
    let last = or_from (same x k) false other refl in
    let none = list_any-append (λ y. same y k) ks (x ∷ []) ∙ or_from _ _ (not-true _ inner.0) last in
    and_from _ _ (not_false _ none) (turned same keys x ks (and_from _ _ (not_false _ free.1) inner.1))

-- two parts of a list exchanged
pub exchanged : {X : Type 0} (same : X → X → Bool) → ComparesKeys same → (a b : List X) → are_distinct same (a ++ b) ≡ true → are_distinct same (b ++ a) ≡ true
exchanged same keys [] b h = subst (λ xs. are_distinct same xs ≡ true) (sym (append-nil b)) h
exchanged same keys (x ∷ a) b h =
    let behind = turned same keys x (a ++ b) h in
    let moved = exchanged same keys a (b ++ x ∷ []) (subst (λ xs. are_distinct same xs ≡ true) (append_assoc a b (x ∷ [])) behind) in
    subst (λ xs. are_distinct same xs ≡ true) (append_assoc b (x ∷ []) a) moved

-- what is found in the first part is not found in the second
found_once : {X : Type 0} (p : X → Bool) (same : X → X → Bool) → ((x y : X) → p x ≡ true → p y ≡ true → same y x ≡ true) → (a b : List X) (x : X)
    → are_distinct same (a ++ b) ≡ true → find p a ≡ Some x → find p b ≡ None
found_once p same alike [] b x h found = absurd cc
found_once p same alike (z ∷ a) b x h found =
    let parts = and_parts (not (list_any (λ y. same y z) (a ++ b))) (are_distinct same (a ++ b)) h in
    elim (cases_Bool (p z)) [
      | inl e ↦
          elim (cases_Option (find p b)) [
            | inl none ↦ none
            | inr at ↦
                let both = alike z at.0 e (find_passes p b at.0 at.1) in
                let none = or_parts _ _ (sym (list_any-append (λ y. same y z) a b) ∙ not-true _ parts.0) in
                absurd (both_ways _ none.1 (any_of (λ y. same y z) p b at.0 both at.1))
          ]
      | inr e ↦ found_once p same alike a b x parts.1 (sym (find_rest p z a e) ∙ found)
    ]
  where
    any_of : {X : Type 0} (q p : X → Bool) (xs : List X) (y : X) → q y ≡ true → find p xs ≡ Some y → list_any q xs ≡ true
    any_of q p [] y h found = absurd cc
    any_of q p (w ∷ xs) y h found =
        elim (cases_Bool (p w)) [
          | inl e ↦ or_left _ _ (subst (λ v. q v ≡ true) (sym (same_Some w y (sym (find_head p w xs e) ∙ found))) h)
          | inr e ↦ or_right (q w) _ (any_of q p xs y h (sym (find_rest p w xs e) ∙ found))
        ]

or_none : {X : Type 0} (o : Option X) → option_or o None ≡ o
or_none None = refl
or_none (Some x) = refl

-- what is found doesn't depend on which part stands first
pub found_either : {X : Type 0} (p : X → Bool) (same : X → X → Bool) → ((x y : X) → p x ≡ true → p y ≡ true → same y x ≡ true) → (a b : List X)
    → are_distinct same (a ++ b) ≡ true → find p (a ++ b) ≡ find p (b ++ a)
found_either p same alike a b h =
    elim (cases_Option (find p a)) [
      | inl none ↦
          find-append p a b ∙ ap (λ o. option_or o (find p b)) none ∙ sym (find-append p b a ∙ ap (λ o. option_or (find p b) o) none ∙ or_none (find p b))
      | inr at ↦
          let none = found_once p same alike a b at.0 h at.1 in
          find-append p a b ∙ ap (λ o. option_or (find p a) o) none ∙ or_none (find p a) ∙ sym (find-append p b a ∙ ap (λ o. option_or o (find p a)) none)
    ]
