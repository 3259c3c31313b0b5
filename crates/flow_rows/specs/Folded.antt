-- Neighbours of one key folded into one row.
use Rattle.std.specs.Prelude.{◌≡◌, ℕ, false, List, [], ◌∷◌}
use Rattle.std.specs.Ordering.{is_lt}
use Rattle.flow_rows.specs.Rows.{Row, row_sum, words_cmp}
use Rattle.std.specs.declared.cmp.Ordering.{Ordering}
use Rattle.std.specs.declared.cmp.Ordering.TheVariants.{Less, Equal, Greater}

abbrev pub by_order : Ordering → List Row → List Row → List Row → List Row
by_order Less a b c = a
by_order Equal a b c = b
by_order Greater a b c = c

abbrev pub folded_onto : Row → List Row → List Row
folded_onto x [] = x ∷ []
folded_onto x (y ∷ ys) = by_order (words_cmp x.key y.key) (x ∷ folded_onto y ys) (folded_onto (row_sum x y) ys) (x ∷ folded_onto y ys)

abbrev pub folded : List Row → List Row
folded [] = []
folded (x ∷ xs) = folded_onto x xs

-- no row's key is below the one before it
abbrev pub RisesFrom : List ℕ → List Row → Type 0
RisesFrom k [] = Unit {0}
RisesFrom k (x ∷ xs) = (is_lt (words_cmp x.key k) ≡ false) × RisesFrom x.key xs

abbrev pub Rises : List Row → Type 0
Rises [] = Unit {0}
Rises (x ∷ xs) = RisesFrom x.key xs
