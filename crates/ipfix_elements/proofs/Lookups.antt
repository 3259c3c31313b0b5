-- Looking an item up by one of its keys, and again by another.
use Rattle.std.proofs.Common.{◌≡◌, Bool, true, false, List, [], ◌∷◌, Option, Some, None, refl, sym, ap, ◌∙◌, inl, inr}
use Rattle.std.specs.Prelude.{◌&&◌, ◌||◌, ◌⊎◌, not, find, option_map}
use Rattle.std.specs.List.{list_any}
use Rattle.std.proofs.lemmas.Bool.{cases_Bool, and_parts, not-true, both_ways, or_left, or_right, cond-true, cond-false}
use Rattle.std.proofs.lemmas.Option.{none-some, same_Some}

-- the head is found where it passes
pub find_head : {X : Type 0} (p : X → Bool) (x : X) (xs : List X) → p x ≡ true → find p (x ∷ xs) ≡ Some x
find_head p x xs h = cond-true (p x) (Some x) (find p xs) h

-- and otherwise what is found in the rest
pub find_rest : {X : Type 0} (p : X → Bool) (x : X) (xs : List X) → p x ≡ false → find p (x ∷ xs) ≡ find p xs
find_rest p x xs h = cond-false (p x) (Some x) (find p xs) h

-- what is found passes
pub find_passes : {X : Type 0} (p : X → Bool) (xs : List X) (y : X) → find p xs ≡ Some y → p y ≡ true
find_passes p [] y h = absurd (none-some y h)
find_passes p (x ∷ xs) y h =
    elim (cases_Bool (p x)) [
      | inl e ↦ ap p (sym (same_Some x y (sym (find_head p x xs e) ∙ h))) ∙ e
      | inr e ↦ find_passes p xs y (sym (find_rest p x xs e) ∙ h)
    ]

-- where something is found, some item passes
pub find_any : {X : Type 0} (p : X → Bool) (xs : List X) (y : X) → find p xs ≡ Some y → list_any p xs ≡ true
find_any p [] y h = absurd (none-some y h)
find_any p (x ∷ xs) y h =
    elim (cases_Bool (p x)) [
      | inl e ↦ or_left (p x) (list_any p xs) e
      | inr e ↦ or_right (p x) (list_any p xs) (find_any p xs y (sym (find_rest p x xs e) ∙ h))
    ]

any_alike : {X : Type 0} (p q : X → Bool) → ((x : X) → p x ≡ q x) → (xs : List X) → list_any p xs ≡ list_any q xs
any_alike p q h [] = refl
any_alike p q h (x ∷ xs) = ap (λ (b : Bool). b || list_any p xs) (h x) ∙ ap (λ (b : Bool). q x || b) (any_alike p q h xs)

-- no two items have the same key
abbrev pub are_distinct : {X : Type 0} → (X → X → Bool) → List X → Bool
are_distinct same [] = true
are_distinct same (x ∷ xs) = not (list_any (λ y. same y x) xs) && are_distinct same xs

-- a test whether two items have the same key
pub record ComparesKeys {X : Type 0} (same : X → X → Bool) : Type 0 where
  pub itself : (x : X) → same x x ≡ true
  pub alike : (x y : X) → same x y ≡ true → (z : X) → same z x ≡ same z y

-- what is found by any test is found again by its own key
pub find_again : {X : Type 0} (p : X → Bool) (same : X → X → Bool) → ComparesKeys same → (xs : List X) (y : X) → are_distinct same xs ≡ true → find p xs ≡ Some y
    → find (λ x. same x y) xs ≡ Some y
find_again p same keys [] y distinct h = absurd (none-some y h)
find_again p same keys (x ∷ xs) y distinct h =
    let apart = and_parts (not (list_any (λ z. same z x) xs)) (are_distinct same xs) distinct in
    elim (cases_Bool (p x)) [
      | inl e ↦
          let is = same_Some x y (sym (find_head p x xs e) ∙ h) in
          find_head (λ z. same z y) x xs (ap (same x) (sym is) ∙ keys.itself x) ∙ ap (λ z. Some z) is
      | inr e ↦
          let rest = find_again p same keys xs y apart.1 (sym (find_rest p x xs e) ∙ h) in
          elim (cases_Bool (same x y)) [
            | inl s ↦ absurd (both_ways (list_any (λ z. same z x) xs) (not-true (list_any (λ z. same z x) xs) apart.0) (any_alike (λ z. same z x) (λ z. same z y) (keys.alike x y s) xs ∙ find_any (λ z. same z y) xs y rest))
            | inr s ↦ find_rest (λ z. same z y) x xs s ∙ rest
          ]
    ]

-- what a map over an option was made of
pub mapped : {X Y : Type 0} (f : X → Y) (o : Option X) (y : Y) → option_map f o ≡ Some y → (x : X) × (o ≡ Some x) × (f x ≡ y)
mapped f None y h = absurd (none-some y h)
mapped f (Some x) y h = (x, refl, same_Some (f x) y h)

pub cases_Option : {X : Type 0} (o : Option X) → (o ≡ None) ⊎ ((x : X) × (o ≡ Some x))
cases_Option None = inl refl
cases_Option (Some x) = inr (x, refl)
