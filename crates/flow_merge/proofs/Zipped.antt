-- Two lists of the same length, item beside item.
use Rattle.std.proofs.Common.{◌≡◌, ℕ, zero, suc, ◌<◌, List, [], ◌∷◌, length, get_or, take, refl, ap, arith}
use Rattle.std.specs.Prelude.{zip}

pub zip_inside : {A B : Type 0} (xs : List A) (ys : List B) (i : ℕ) → i < length xs → i < length ys → i < length (zip xs ys)
zip_inside [] ys i inside beside = absurd (omega (arith, inside))
zip_inside (x ∷ xs) [] i inside beside = absurd (omega (arith, beside))
zip_inside (x ∷ xs) (y ∷ ys) zero inside beside = omega arith
zip_inside (x ∷ xs) (y ∷ ys) (suc i) inside beside = omega (arith, zip_inside xs ys i (omega (arith, inside)) (omega (arith, beside)))

pub zip_at : {A B : Type 0} (xs : List A) (ys : List B) (i : ℕ) (x : A) (y : B) → i < length xs → i < length ys → get_or (zip xs ys) i (x, y) ≡ (get_or xs i x, get_or ys i y)
zip_at [] ys i x y inside beside = absurd (omega (arith, inside))
zip_at (a ∷ xs) [] i x y inside beside = absurd (omega (arith, beside))
zip_at (a ∷ xs) (b ∷ ys) zero x y inside beside = refl
zip_at (a ∷ xs) (b ∷ ys) (suc i) x y inside beside = zip_at xs ys i x y (omega (arith, inside)) (omega (arith, beside))

pub take-zip : {A B : Type 0} (xs : List A) (ys : List B) (i : ℕ) → take i (zip xs ys) ≡ zip (take i xs) (take i ys)
take-zip xs ys zero = refl
take-zip [] ys (suc i) = refl
take-zip (x ∷ xs) [] (suc i) = refl
take-zip {A} {B} (x ∷ xs) (y ∷ ys) (suc i) = ap (λ (ps : List (A × B)). (x, y) ∷ ps) (take-zip xs ys i)
