-- The first of a list for which a test says no.
use Rattle.std.proofs.Common.{◌≡◌, ◌∙◌, ℕ, ◌+◌, ◌<◌, ◌≤◌, List, length, map, take, get_or, refl, sym, ap, subst, arith}
use Rattle.std.specs.Prelude.{All, Bool, true, false, not, ◌&&◌}
use Rattle.std.proofs.lemmas.List.{get_or-map, length-map, take_all}
use Rattle.std.proofs.lemmas.List.Elements.{All-more}
use Rattle.receipt_merging.specs.Judging.{IsFirstNot}
use Rattle.receipt_merging.specs.Parts.{PartValue}

at_map : {A : Type 0} (f : A → PartValue) (xs : List A) (i : ℕ) (x : A) → i < length xs → x ≡ get_or xs i x → (d : PartValue) → get_or (map f xs) i d ≡ f x
at_map f xs i x within is d = get_or-map f xs i x d within ∙ sym (ap f is)

-- one more passes
pub passes_more : {A : Type 0} (passes : PartValue → Bool) (f : A → PartValue) (xs : List A) (i : ℕ) (x : A) → i < length xs → x ≡ get_or xs i x
    → All (λ p. passes p ≡ true) (take i (map f xs)) → passes (f x) ≡ true → All (λ p. passes p ≡ true) (take (i + 1) (map f xs))
passes_more passes f xs i x within is so_far so =
    let count : length (map f xs) ≡ length xs = length-map xs f in
    All-more (λ p. passes p ≡ true) (map f xs) i (f x) (omega (arith, count)) so_far (ap passes (at_map f xs i x within is (f x)) ∙ so)

pub first_not : {A : Type 0} (passes : PartValue → Bool) (f : A → PartValue) (xs : List A) (i : ℕ) (x : A) → i < length xs → x ≡ get_or xs i x
    → All (λ p. passes p ≡ true) (take i (map f xs)) → passes (f x) ≡ false → IsFirstNot passes (map f xs) i
first_not passes f xs i x within is so_far fails =
    let count : length (map f xs) ≡ length xs = length-map xs f in
    record { within = omega (arith, count); fails = λ d. ap passes (at_map f xs i x within is d) ∙ fails; before = so_far }

pub all_pass : {A : Type 0} (passes : PartValue → Bool) (f : A → PartValue) (xs : List A) (i : ℕ) → length xs ≤ i
    → All (λ p. passes p ≡ true) (take i (map f xs)) → All (λ p. passes p ≡ true) (map f xs)
all_pass passes f xs i enough so_far =
    let count : length (map f xs) ≡ length xs = length-map xs f in
    subst (λ ys. All (λ p. passes p ≡ true) ys) (take_all i (map f xs) (omega (arith, count))) so_far

-- the order of three tests doesn't matter
pub and_moves : (a b c : Bool) → ((a && b) && c) ≡ (b && (a && c))
and_moves true true c = refl
and_moves true false c = refl
and_moves false true c = refl
and_moves false false c = refl

pub not_false : (b : Bool) → not b ≡ false → b ≡ true
not_false true e = refl
not_false false e = absurd cc
