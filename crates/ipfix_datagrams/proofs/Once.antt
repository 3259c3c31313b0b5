-- Ids that are each listed once.
use Rattle.std.proofs.Common.{◌≡◌, ℕ, Bool, true, false, cond, eqb, List, [], ◌∷◌, ◌++◌, refl, sym, ap, subst, ◌∙◌, inl, inr}
use Rattle.std.specs.Prelude.{◌||◌, filter}
use Rattle.std.specs.List.{AllByRecursion, IsDistinct, list_any}
use Rattle.std.proofs.lemmas.Bool.Decides.{eqb_tells}

-- one more that isn't among them
all_push : (x id : ℕ) (xs : List ℕ) → eqb x id ≡ false → AllByRecursion (λ y. eqb x y ≡ false) xs → AllByRecursion (λ y. eqb x y ≡ false) (xs ++ id ∷ [])
all_push x id [] other h = (other, tt)
all_push x id (y ∷ xs) other h = (h.0, all_push x id xs other h.1)

not_first : (a b : Bool) → (a || b) ≡ false → a ≡ false
not_first true b e = cc
not_first false b e = refl

not_later : (a b : Bool) → (a || b) ≡ false → b ≡ false
not_later true b e = cc
not_later false b e = e

pub once_push : (xs : List ℕ) (id : ℕ) → IsDistinct eqb xs → list_any (λ b. eqb b id) xs ≡ false → IsDistinct eqb (xs ++ id ∷ [])
unfolding IsDistinct
once_push [] id d out = (tt, tt)
once_push (x ∷ xs) id d out = (all_push x id xs (not_first (eqb x id) (list_any (λ b. eqb b id) xs) out) d.0, once_push xs id d.1 (not_later (eqb x id) (list_any (λ b. eqb b id) xs) out))

-- some of them
all_filter : (p : ℕ → Bool) (x : ℕ) (xs : List ℕ) → AllByRecursion (λ y. eqb x y ≡ false) xs → AllByRecursion (λ y. eqb x y ≡ false) (filter p xs)
all_filter p x [] h = tt
all_filter p x (y ∷ xs) h = elim (p y) as (λ b. AllByRecursion (λ z. eqb x z ≡ false) (cond b (y ∷ filter p xs) (filter p xs))) [
  | true ↦ (h.0, all_filter p x xs h.1)
  | false ↦ all_filter p x xs h.1
]

pub once_filter : (p : ℕ → Bool) (xs : List ℕ) → IsDistinct eqb xs → IsDistinct eqb (filter p xs)
unfolding IsDistinct
once_filter p [] d = d
once_filter p (x ∷ xs) d = elim (p x) as (λ b. IsDistinct eqb (cond b (x ∷ filter p xs) (filter p xs))) [
  | true ↦ (all_filter p x xs d.0, once_filter p xs d.1)
  | false ↦ once_filter p xs d.1
]

-- those of one domain, in the place of others
pub once_put : (old new : ℕ → List ℕ) (domain : ℕ) (all : List ℕ) → ((q : ℕ) → new q ≡ cond (eqb q domain) all (old q)) → (IsDistinct eqb (old domain) → IsDistinct eqb all) → ((q : ℕ) → IsDistinct eqb (old q)) → (q : ℕ) → IsDistinct eqb (new q)
once_put old new domain all is once before q = elim (eqb_tells q domain) [
  | inl here ↦ subst (IsDistinct eqb) (sym (is q ∙ ap (λ (b : Bool). cond b all (old q)) here.0)) (once (before domain))
  | inr other ↦ subst (IsDistinct eqb) (sym (is q ∙ ap (λ (b : Bool). cond b all (old q)) other.0)) (before q)
]
