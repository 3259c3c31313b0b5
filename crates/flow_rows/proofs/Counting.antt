-- Rows whose first numbers are above 0 have that still once they are folded, and with rows put between them.
use Rattle.std.proofs.Common.{◌≡◌, ◌∙◌, zero, suc, ◌<◌, List, [], ◌∷◌, ◌++◌, get_or, sym, ap, subst, arith}
use Rattle.std.specs.declared.cmp.Ordering.{Ordering}
use Rattle.std.specs.declared.cmp.Ordering.TheVariants.{Less, Equal, Greater}
use Rattle.flow_rows.proofs.Additive.{get_or-added}
use Rattle.flow_rows.proofs.Ascending.{ascends_behind, ascends_between, ascends_in_place, folded_ascends}
use Rattle.flow_rows.specs.Rows.{Row, Ascends, Counted, IsRun, row_sum, words_cmp}
use Rattle.flow_rows.specs.Folded.{by_order, folded_onto, folded, Rises}

abbrev Each : List Row → Type 0
Each [] = Unit {0}
Each (x ∷ xs) = (0 < get_or x.numbers 0 0) × Each xs

into_each : (xs : List Row) → Counted xs → Each xs
into_each [] a = tt
into_each (x ∷ xs) a = (a 0 x (omega arith), into_each xs (λ k d l. a (suc k) d (omega arith)))

from_each : (xs : List Row) → Each xs → Counted xs
from_each [] a k d l = absurd (omega arith)
from_each (x ∷ xs) a zero d l = a.0
from_each (x ∷ xs) a (suc k) d l = from_each xs a.1 k d (omega arith)

each_by_order : (r : Ordering) (a b c : List Row) → Each a → Each b → Each c → Each (by_order r a b c)
each_by_order Less a b c p q s = p
each_by_order Equal a b c p q s = q
each_by_order Greater a b c p q s = s

each_sum : (x y : Row) → 0 < get_or x.numbers 0 0 → 0 < get_or (row_sum x y).numbers 0 0
each_sum x y p = omega (arith, get_or-added x.numbers y.numbers 0)

each_onto : (x : Row) (ys : List Row) → 0 < get_or x.numbers 0 0 → Each ys → Each (folded_onto x ys)
each_onto x [] p a = (p, tt)
each_onto x (y ∷ ys) p a =
    each_by_order (words_cmp x.key y.key) (x ∷ folded_onto y ys) (folded_onto (row_sum x y) ys) (x ∷ folded_onto y ys) (p, each_onto y ys a.0 a.1) (each_onto (row_sum x y) ys (each_sum x y p) a.1) (p, each_onto y ys a.0 a.1)

each_folded : (xs : List Row) → Each xs → Each (folded xs)
each_folded [] a = tt
each_folded (x ∷ xs) a = each_onto x xs a.0 a.1

counted_folded : (xs : List Row) → Counted xs → Counted (folded xs)
counted_folded xs a = from_each (folded xs) (each_folded xs (into_each xs a))

-- ---- rows put between others, and in place of others

each_between : (xs : List Row) (x y : Row) (ys : List Row) → 0 < get_or y.numbers 0 0 → Each (xs ++ x ∷ ys) → Each (xs ++ x ∷ y ∷ ys)
each_between [] x y ys p a = (a.0, (p, a.1))
each_between (z ∷ xs) x y ys p a = (a.0, each_between xs x y ys p a.1)

each_in_place : (xs : List Row) (x y : Row) (ys : List Row) → 0 < get_or y.numbers 0 0 → Each (xs ++ x ∷ ys) → Each (xs ++ y ∷ ys)
each_in_place [] x y ys p a = (p, a.1)
each_in_place (z ∷ xs) x y ys p a = (a.0, each_in_place xs x y ys p a.1)

each_behind : (xs ys : List Row) → Each (xs ++ ys) → Each ys
each_behind [] ys a = a
each_behind (x ∷ xs) ys a = each_behind xs ys a.1

-- ---- runs

pub run_between : (xs : List Row) (x y : Row) (ys : List Row) → words_cmp x.key y.key ≡ Less → IsRun (y ∷ ys) → IsRun (xs ++ x ∷ ys) → IsRun (xs ++ x ∷ y ∷ ys)
unfolding IsRun
run_between xs x y ys l b a =
    (ascends_between xs x y ys l b.0 a.0, from_each (xs ++ x ∷ y ∷ ys) (each_between xs x y ys (b.1 0 y (omega arith)) (into_each (xs ++ x ∷ ys) a.1)))

pub run_in_place : (xs : List Row) (x y : Row) (ys : List Row) → x.key ≡ y.key → 0 < get_or y.numbers 0 0 → IsRun (xs ++ x ∷ ys) → IsRun (xs ++ y ∷ ys)
unfolding IsRun
run_in_place xs x y ys e p a =
    (ascends_in_place xs x y ys e a.0, from_each (xs ++ y ∷ ys) (each_in_place xs x y ys p (into_each (xs ++ x ∷ ys) a.1)))

pub run_behind : (xs ys : List Row) → IsRun (xs ++ ys) → IsRun ys
unfolding IsRun
run_behind xs ys a = (ascends_behind xs ys a.0, from_each ys (each_behind xs ys (into_each (xs ++ ys) a.1)))

pub sum_counted : (x y : Row) (ys : List Row) → IsRun (x ∷ ys) → 0 < get_or (row_sum x y).numbers 0 0
unfolding IsRun
sum_counted x y ys a = each_sum x y (a.1 0 x (omega arith))

pub folded_run : (xs : List Row) → Rises xs → Counted xs → IsRun (folded xs)
unfolding IsRun
folded_run xs r c = (folded_ascends xs r, counted_folded xs c)

pub run_ascends : (xs : List Row) → IsRun xs → Ascends xs
unfolding IsRun
run_ascends xs h = h.0

pub no_run : (xs : List Row) → xs ≡ [] → IsRun xs
unfolding IsRun
no_run xs e = subst (λ (ys : List Row). Ascends ys × Counted ys) (sym e) (tt, from_each [] tt)

pub one_run : (old new : List Row) (x : Row) → old ≡ [] → new ≡ old ++ x ∷ [] → 0 < get_or x.numbers 0 0 → IsRun new
unfolding IsRun
one_run old new x e f p =
    subst (λ (ys : List Row). Ascends ys × Counted ys) (sym (f ∙ ap (λ (xs : List Row). xs ++ x ∷ []) e)) ((tt, tt), from_each (x ∷ []) (p, tt))
