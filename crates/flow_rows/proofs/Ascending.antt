-- Rows that are put between others, and folded ones, ascend strictly.
use Rattle.std.proofs.Common.{◌≡◌, ℕ, true, false, List, [], ◌∷◌, ◌++◌, refl, sym, ap, ◌∙◌, subst}
use Rattle.std.specs.Ordering.{is_lt, ordering_reverse}
use Rattle.std.specs.declared.cmp.Ordering.{Ordering}
use Rattle.std.specs.declared.cmp.Ordering.TheVariants.{Less, Equal, Greater}
use Rattle.std.proofs.lemmas.Cmp.{nat_list_cmp_total}
use Rattle.flow_rows.proofs.Additive.{keys_same}
use Rattle.flow_rows.specs.Rows.{Row, Above, Ascends, row_sum, words_cmp}
use Rattle.flow_rows.specs.Folded.{by_order, folded_onto, folded, RisesFrom, Rises}

pub turned : (x y : List ℕ) → words_cmp x y ≡ Greater → words_cmp y x ≡ Less
turned x y e = nat_list_cmp_total.antisymm y x ∙ ap ordering_reverse e

-- ---- a row between two others

above_between : (k : List ℕ) (xs : List Row) (x y : Row) (ys : List Row) → words_cmp x.key y.key ≡ Less → Above k (xs ++ x ∷ ys) → Above k (xs ++ x ∷ y ∷ ys)
above_between k [] x y ys l a = (a.0, (nat_list_cmp_total.trans k x.key y.key a.0 l, a.1))
above_between k (z ∷ xs) x y ys l a = (a.0, above_between k xs x y ys l a.1)

pub ascends_between : (xs : List Row) (x y : Row) (ys : List Row) → words_cmp x.key y.key ≡ Less → Ascends (y ∷ ys) → Ascends (xs ++ x ∷ ys) → Ascends (xs ++ x ∷ y ∷ ys)
ascends_between [] x y ys l b a = ((l, a.0), b)
ascends_between (z ∷ xs) x y ys l b a = (above_between z.key xs x y ys l a.0, ascends_between xs x y ys l b a.1)

-- ---- a row in place of one of its key

above_in_place : (k : List ℕ) (xs : List Row) (x y : Row) (ys : List Row) → x.key ≡ y.key → Above k (xs ++ x ∷ ys) → Above k (xs ++ y ∷ ys)
above_in_place k [] x y ys e a = (subst (λ (l : List ℕ). words_cmp k l ≡ Less) e a.0, a.1)
above_in_place k (z ∷ xs) x y ys e a = (a.0, above_in_place k xs x y ys e a.1)

pub ascends_in_place : (xs : List Row) (x y : Row) (ys : List Row) → x.key ≡ y.key → Ascends (xs ++ x ∷ ys) → Ascends (xs ++ y ∷ ys)
ascends_in_place [] x y ys e a = (subst (λ (k : List ℕ). Above k ys) e a.0, a.1)
ascends_in_place (z ∷ xs) x y ys e a = (above_in_place z.key xs x y ys e a.0, ascends_in_place xs x y ys e a.1)

pub ascends_behind : (xs ys : List Row) → Ascends (xs ++ ys) → Ascends ys
ascends_behind [] ys a = a
ascends_behind (x ∷ xs) ys a = ascends_behind xs ys a.1

-- ---- folded rows

not_less : (x y : List ℕ) → is_lt (words_cmp y x) ≡ false → words_cmp x y ≡ Greater → ⊥
not_less x y h e = let l = turned x y e in let t : true ≡ false = ap is_lt (sym l) ∙ h in cc

rises_along : (k l : List ℕ) (xs : List Row) → k ≡ l → RisesFrom l xs → RisesFrom k xs
rises_along k l xs e h = subst (λ (j : List ℕ). RisesFrom j xs) (sym e) h

above_folded : (k : List ℕ) (x : Row) (ys : List Row) → words_cmp k x.key ≡ Less → RisesFrom x.key ys → Above k (folded_onto x ys)
above_folded k x [] l h = (l, tt)
above_folded k x (y ∷ ys) l h =
    elim (words_cmp x.key y.key) as (λ (r : Ordering). words_cmp x.key y.key ≡ r → Above k (by_order r (x ∷ folded_onto y ys) (folded_onto (row_sum x y) ys) (x ∷ folded_onto y ys))) [
      | Less ↦ λ e. (l, above_folded k y ys (nat_list_cmp_total.trans k x.key y.key l e) h.1)
      | Equal ↦ λ e. above_folded k (row_sum x y) ys l (rises_along x.key y.key ys (keys_same x.key y.key e) h.1)
      | Greater ↦ λ e. absurd (not_less x.key y.key h.0 e)
    ] refl

onto_ascends : (x : Row) (ys : List Row) → RisesFrom x.key ys → Ascends (folded_onto x ys)
onto_ascends x [] h = (tt, tt)
onto_ascends x (y ∷ ys) h =
    elim (words_cmp x.key y.key) as (λ (r : Ordering). words_cmp x.key y.key ≡ r → Ascends (by_order r (x ∷ folded_onto y ys) (folded_onto (row_sum x y) ys) (x ∷ folded_onto y ys))) [
      | Less ↦ λ e. (above_folded x.key y ys e h.1, onto_ascends y ys h.1)
      | Equal ↦ λ e. onto_ascends (row_sum x y) ys (rises_along x.key y.key ys (keys_same x.key y.key e) h.1)
      | Greater ↦ λ e. absurd (not_less x.key y.key h.0 e)
    ] refl

pub folded_ascends : (xs : List Row) → Rises xs → Ascends (folded xs)
folded_ascends [] h = tt
folded_ascends (x ∷ xs) h = onto_ascends x xs h
