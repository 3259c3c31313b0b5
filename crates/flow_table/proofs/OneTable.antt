-- A list of records has one table.
use Rattle.std.proofs.Common.{◌≡◌, ℕ, zero, suc, ◌<◌, ◌⊎◌, inl, inr, List, [], ◌∷◌, length, map, slice_index_or, All, refl, sym, ap, ◌∙◌, subst, arith}
use Rattle.std.specs.List.{Contains}
use Rattle.std.specs.List.Sorted.{IsStrictlySortedBy}
use Rattle.std.specs.Ordering.{nat_cmp, ordering_then, ordering_reverse}
use Rattle.std.specs.declared.cmp.Ordering.{Ordering}
use Rattle.std.specs.declared.cmp.Ordering.TheVariants.{Less, Equal, Greater}
use Rattle.std.proofs.lemmas.Cmp.{nat_cmp_total}
use Rattle.std.proofs.lemmas.Map.Keys.{sorted_tail}
use Rattle.std.proofs.lemmas.Map.Views.{All-after_first}
use Rattle.std.proofs.lemmas.List.Elements.{All-head, All-tail}
use Rattle.ipfix_elements.specs.declared.cell.Cell.{Cell}
use Rattle.ipfix_message.specs.declared.record.DataRecord.{DataRecord}
use Rattle.flow_table.specs.declared.table.Row.{Row}
use Rattle.flow_table.specs.declared.table.Table.{Table}
use Rattle.flow_table.specs.Plans.{PlanValue}
use Rattle.flow_table.specs.SameTables.{RowValue, row_value, value_of, IsSameTable}
use Rattle.flow_table.specs.Tables.{sum_at, flows_at, place_of, place_cmp, key_cmp, IsRow, IsTable}
use Rattle.flow_table.proofs.Places.{keys_total}

-- ---- what is among a list

abbrev pub Among : {X : Type 0} → List X → X → Type 0
Among [] z = ⊥
Among (x ∷ xs) z = (x ≡ z) ⊎ Among xs z

at_place : {X : Type 0} (xs : List X) (k : ℕ) (z : X) → k < length xs → slice_index_or xs k z ≡ z → Among xs z
at_place [] k z inside here = absurd (omega arith)
at_place (x ∷ xs) zero z inside here = inl here
at_place (x ∷ xs) (suc k) z inside here = inr (at_place xs k z (omega arith) here)

pub among : {X : Type 0} (xs : List X) (z : X) → Contains xs z → Among xs z
among xs z h = at_place xs h.0 z h.1 h.2

-- ---- sorted lists with the same elements are the same

abbrev pub Asymmetric : {K : Type 0} → (K → K → Ordering) → Type 0
Asymmetric {K} R = (x y : K) → R x y ≡ Less → R y x ≡ Less → ⊥

pub below_all : {K : Type 0} (R : K → K → Ordering) (x : K) (xs : List K) (z : K) → All (λ y. R x y ≡ Less) xs → Among xs z → R x z ≡ Less
below_all R x [] z below h = absurd h
below_all R x (y ∷ ys) z below (inl here) = subst (λ w. R x w ≡ Less) here (All-head (λ w. R x w ≡ Less) y ys below)
below_all R x (y ∷ ys) z below (inr later) = below_all R x ys z (All-tail (λ w. R x w ≡ Less) y ys below) later

-- the first of two sorted lists with the same elements
same_first : {K : Type 0} (R : K → K → Ordering) (x y : K) (xs ys : List K) → Asymmetric R → IsStrictlySortedBy R (x ∷ xs) → IsStrictlySortedBy R (y ∷ ys) → Among (y ∷ ys) x → Among (x ∷ xs) y → x ≡ y
same_first R x y xs ys order s t (inl here) h = sym here
same_first R x y xs ys order s t (inr later) (inl here) = here
same_first R x y xs ys order s t (inr later) (inr other) = absurd (order x y (below_all R x xs y (All-after_first R x xs s) other) (below_all R y ys x (All-after_first R y ys t) later))

-- what comes after the first
behind : {K : Type 0} (R : K → K → Ordering) (x : K) (xs ys : List K) → Asymmetric R → IsStrictlySortedBy R (x ∷ xs) → ((z : K) → Among (x ∷ xs) z → Among (x ∷ ys) z) → (z : K) → Among xs z → Among ys z
behind R x xs ys order s within z h =
    elim (within z (inr h)) as (λ _. Among ys z) [
      | inl here ↦
          let less : R x z ≡ Less = below_all R x xs z (All-after_first R x xs s) h in
          let self : R x x ≡ Less = subst (λ w. R x w ≡ Less) (sym here) less in
          absurd (order x x self self)
      | inr later ↦ later
    ]

pub same_sorted : {K : Type 0} (R : K → K → Ordering) (xs ys : List K) → Asymmetric R → IsStrictlySortedBy R xs → IsStrictlySortedBy R ys → ((z : K) → Among xs z → Among ys z) → ((z : K) → Among ys z → Among xs z) → xs ≡ ys
same_sorted R [] [] order s t there back = refl
same_sorted R [] (y ∷ ys) order s t there back = absurd (back y (inl refl))
same_sorted R (x ∷ xs) [] order s t there back = absurd (there x (inl refl))
same_sorted {K} R (x ∷ xs) (y ∷ ys) order s t there back =
    let first : x ≡ y = same_first R x y xs ys order s t (there x (inl refl)) (back y (inl refl)) in
    let t_at : IsStrictlySortedBy R (x ∷ ys) = subst (λ (w : K). IsStrictlySortedBy R (w ∷ ys)) (sym first) t in
    let there_at : (z : K) → Among (x ∷ xs) z → Among (x ∷ ys) z = subst (λ (w : K). (z : K) → Among (x ∷ xs) z → Among (w ∷ ys) z) (sym first) there in
    let back_at : (z : K) → Among (x ∷ ys) z → Among (x ∷ xs) z = subst (λ (w : K). (z : K) → Among (w ∷ ys) z → Among (x ∷ xs) z) (sym first) back in
    let rest : xs ≡ ys = same_sorted R xs ys order (sorted_tail R x xs s) (sorted_tail R x ys t_at) (behind R x xs ys order s there_at) (behind R x ys xs order t_at back_at) in
    cc

-- ---- places

-- of two orders, one after the other
both_below : (a b c d : Ordering) → a ≡ ordering_reverse b → c ≡ ordering_reverse d → ordering_then a c ≡ Less → ordering_then b d ≡ Less → ⊥
both_below Less Less c d p q h k = cc
both_below Less Equal c d p q h k = cc
both_below Less Greater c d p q h k = cc
both_below Greater b c d p q h k = cc
both_below Equal Less c d p q h k = cc
both_below Equal Greater c d p q h k = cc
both_below Equal Equal Less Less p q h k = cc
both_below Equal Equal Less Equal p q h k = cc
both_below Equal Equal Less Greater p q h k = cc
both_below Equal Equal Equal d p q h k = cc
both_below Equal Equal Greater d p q h k = cc

pub places_asymmetric : Asymmetric place_cmp
places_asymmetric a b h k =
    both_below (nat_cmp a.0 b.0) (nat_cmp b.0 a.0) (key_cmp a.1 b.1) (key_cmp b.1 a.1) (nat_cmp_total.antisymm a.0 b.0) (keys_total.antisymm a.1 b.1) h k

-- ---- tables

-- a flow contributes to each place of a row
pub some_flow : (plan : PlanValue) (rs : List DataRecord) (rows : List Row) (z : ℕ × List Cell) → All (IsRow plan rs) rows → Among (map place_of rows) z → 0 < flows_at plan rs z.0 z.1
some_flow plan rs [] z all h = absurd h
some_flow plan rs (row ∷ rows) z all (inl here) =
    subst (λ (w : ℕ × List Cell). 0 < flows_at plan rs w.0 w.1) here (All-head (IsRow plan rs) row rows all).some
some_flow plan rs (row ∷ rows) z all (inr later) = some_flow plan rs rows z (All-tail (IsRow plan rs) row rows all) later

-- the row at a place
abbrev pub row_at : PlanValue → List DataRecord → ℕ × List Cell → RowValue
row_at plan rs place = row_value place.0 place.1 (map (sum_at plan rs place.0 place.1) plan.counters) (flows_at plan rs place.0 place.1)

pub rows_by_place : (plan : PlanValue) (rs : List DataRecord) (rows : List Row) → All (IsRow plan rs) rows → map value_of rows ≡ map (row_at plan rs) (map place_of rows)
rows_by_place plan rs [] all = refl
rows_by_place plan rs (row ∷ rows) all =
    let is_row = All-head (IsRow plan rs) row rows all in
    let sums = is_row.sums in
    let flows = is_row.flows in
    let first : value_of row ≡ row_at plan rs (place_of row) = cc in
    let others = rows_by_place plan rs rows (All-tail (IsRow plan rs) row rows all) in
    cc

-- the places of one table are among those of another
places_within : (plan : PlanValue) (rs : List DataRecord) (t u : Table) → IsTable plan rs t → IsTable plan rs u → (z : ℕ × List Cell) → Among (map place_of t.rows.items) z → Among (map place_of u.rows.items) z
places_within plan rs t u is_t is_u z h = among (map place_of u.rows.items) z (is_u.complete z.0 z.1 (some_flow plan rs t.rows.items z is_t.rows h))

pub same_table : (plan : PlanValue) (rs : List DataRecord) (t u : Table) → IsTable plan rs t → IsTable plan rs u → IsSameTable t u
same_table plan rs t u is_t is_u =
    let places = same_sorted place_cmp (map place_of t.rows.items) (map place_of u.rows.items) places_asymmetric is_t.ascending is_u.ascending (places_within plan rs t u is_t is_u) (places_within plan rs u t is_u is_t) in
    record {
      rows = rows_by_place plan rs t.rows.items is_t.rows ∙ ap (map (row_at plan rs)) places ∙ sym (rows_by_place plan rs u.rows.items is_u.rows);
      tally = is_t.tally ∙ sym is_u.tally;
      missing = is_t.missing ∙ sym is_u.missing;
    }
