-- What holds of the items of two lists, place by place.
use Rattle.std.proofs.Common.{◌≡◌, refl, ℕ, zero, suc, ◌+◌, ◌<◌, List, [], ◌∷◌, length, get_or, take, add-one, arith}
use Rattle.std.specs.List.{AllZip}
use Rattle.std.proofs.Math.Seq.{take-suc}
use Rattle.flow_export.proofs.RowFields.{AllZip-append}

module _ {A B : Type 0} (R : A → B → Type 0) where
  -- at a place
  pub AllZip-at : (xs : List A) (ys : List B) (i : ℕ) (d : A) (e : B) → AllZip R xs ys → i < length xs → R (get_or xs i d) (get_or ys i e)
  AllZip-at [] ys i d e all inside = absurd (omega (arith, inside))
  AllZip-at (x ∷ xs) [] i d e all inside = absurd all
  AllZip-at (x ∷ xs) (y ∷ ys) zero d e all inside = all.0
  AllZip-at (x ∷ xs) (y ∷ ys) (suc i) d e all inside = AllZip-at xs ys i d e all.1 (omega (arith, inside))

  -- of one more
  pub AllZip-more : (xs : List A) (ys : List B) (i : ℕ) (d : A) (e : B) → i < length xs → i < length ys → AllZip R (take i xs) (take i ys) → R (get_or xs i d) (get_or ys i e) → AllZip R (take (i + 1) xs) (take (i + 1) ys)
  AllZip-more xs ys i d e inside within all here = rw (add-one i, take-suc xs i d inside, take-suc ys i e within) (AllZip-append R (take i xs) (take i ys) _ _ all (here, tt))

  -- there are as many in both
  pub AllZip-length : (xs : List A) (ys : List B) → AllZip R xs ys → length xs ≡ length ys
  AllZip-length [] [] all = refl
  AllZip-length [] (y ∷ ys) all = absurd all
  AllZip-length (x ∷ xs) [] all = absurd all
  AllZip-length (x ∷ xs) (y ∷ ys) all = omega (arith, AllZip-length xs ys all.1)
