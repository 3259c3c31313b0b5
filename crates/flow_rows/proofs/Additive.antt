-- What adds up over rows of one key adds up over folded rows.
use Rattle.std.proofs.Common.{◌≡◌, ℕ, zero, suc, ◌+◌, Bool, true, false, cond, List, [], ◌∷◌, get_or, refl, sym, ap, ◌∙◌, arith}
use Rattle.std.specs.List.{sum_by}
use Rattle.std.specs.Ordering.{is_eq}
use Rattle.std.specs.declared.cmp.Ordering.{Ordering}
use Rattle.std.specs.declared.cmp.Ordering.TheVariants.{Less, Equal, Greater}
use Rattle.std.specs.FinMap.{slice_cmp-IsAntisymmetric, nat_cmp-IsAntisymmetric}
use Rattle.std.proofs.lemmas.List.Sums.{sum_by-cons}
use Rattle.flow_rows.specs.Rows.{Row, added, row_sum, part, words_cmp}
use Rattle.flow_rows.specs.Folded.{by_order, folded_onto, folded}

-- a measure of rows that adds up where the keys are the same
pub record AddsUp (m : Row → ℕ) : Type 0 where
  pub at : (x y : Row) → words_cmp x.key y.key ≡ Equal → m (row_sum x y) ≡ m x + m y

pub keys_same : (x y : List ℕ) → words_cmp x y ≡ Equal → x ≡ y
keys_same = slice_cmp-IsAntisymmetric nat_cmp-IsAntisymmetric

pub get_or-added : (xs ys : List ℕ) (i : ℕ) → get_or (added xs ys) i 0 ≡ get_or xs i 0 + get_or ys i 0
get_or-added [] ys i = omega arith
get_or-added (x ∷ xs) [] zero = omega arith
get_or-added (x ∷ xs) [] (suc i) = omega arith
get_or-added (x ∷ xs) (y ∷ ys) zero = refl
get_or-added (x ∷ xs) (y ∷ ys) (suc i) = get_or-added xs ys i

cond_adds : (b : Bool) (s m n : ℕ) → s ≡ m + n → cond b s 0 ≡ cond b m 0 + cond b n 0
cond_adds true s m n e = e
cond_adds false s m n e = refl

pub part_adds : (q : List ℕ) (i : ℕ) → AddsUp (part q i)
part_adds q i = record {
  at = λ x y e.
      cond_adds (is_eq (words_cmp x.key q)) _ (get_or x.numbers i 0) (get_or y.numbers i 0) (get_or-added x.numbers y.numbers i)
      ∙ ap (λ (k : List ℕ). part q i x + cond (is_eq (words_cmp k q)) (get_or y.numbers i 0) 0) (keys_same x.key y.key e);
}

folded_onto-sum : (m : Row → ℕ) → AddsUp m → (x : Row) (ys : List Row) → sum_by m (folded_onto x ys) ≡ m x + sum_by m ys
folded_onto-sum m a x [] = omega arith
folded_onto-sum m a x (y ∷ ys) =
    elim (words_cmp x.key y.key) as (λ (r : Ordering). words_cmp x.key y.key ≡ r → sum_by m (by_order r (x ∷ folded_onto y ys) (folded_onto (row_sum x y) ys) (x ∷ folded_onto y ys)) ≡ m x + sum_by m (y ∷ ys)) [
      | Less ↦ λ e. omega (arith, sum_by-cons m x (folded_onto y ys), sum_by-cons m y ys, folded_onto-sum m a y ys)
      | Equal ↦ λ e. omega (arith, sum_by-cons m y ys, folded_onto-sum m a (row_sum x y) ys, a.at x y e)
      | Greater ↦ λ e. omega (arith, sum_by-cons m x (folded_onto y ys), sum_by-cons m y ys, folded_onto-sum m a y ys)
    ] refl

pub folded-sum : (m : Row → ℕ) → AddsUp m → (xs : List Row) → sum_by m (folded xs) ≡ sum_by m xs
folded-sum m a [] = refl
folded-sum m a (x ∷ xs) = folded_onto-sum m a x xs ∙ sym (sum_by-cons m x xs)
