-- The rows of a partial table that holds the totals of a list are the table of that list.
use Rattle.std.proofs.Common.{◌≡◌, ◌<◌, ℕ, Bool, cond, eqb, List, [], ◌∷◌, map, All, Contains, Option, None, Some, sym, refl, ap, ◌∙◌, subst, inl, inr, arith}
use Rattle.std.specs.List.{AllByRecursion}
use Rattle.std.specs.List.Sorted.{IsStrictlySortedBy}
use Rattle.std.proofs.lemmas.Bool.Decides.{eqb_tells}
use Rattle.std.proofs.lemmas.List.Elements.{All-nil, All-cons, All-head, All-tail}
use Rattle.std.proofs.lemmas.Option.{none-some, same_Some}
use Rattle.ipfix_elements.specs.declared.cell.Cell.{Cell}
use Rattle.ipfix_message.specs.declared.record.DataRecord.{DataRecord}
use Rattle.std.specs.declared.cmp.Ordering.TheVariants.{Less}
use Rattle.flow_table.specs.declared.table.Row.{Row}
use Rattle.flow_table.specs.declared.table.Table.{Table}
use Rattle.flow_table.specs.Missing.{missing_of}
use Rattle.flow_table.specs.Plans.{PlanValue}
use Rattle.flow_table.specs.Tables.{place_of, place_cmp, flows_at, sum_at, tally_of, IsRow, IsTable}
use Rattle.flow_table.specs.Totals.{Total, total}
use Rattle.flow_table.specs.Partials.{totals_at}
use Rattle.flow_table.specs.Finishing.{AreLinesOf, Line, line_cmp, line_of}

-- ---- the rows ascend

below_places : (p : ℕ × List Cell) (rows : List Row) → AllByRecursion (λ l. place_cmp p l.0 ≡ Less) (map line_of rows) → AllByRecursion (λ q. place_cmp p q ≡ Less) (map place_of rows)
below_places p [] h = tt
below_places p (row ∷ rows) h = (h.0, below_places p rows h.1)

pub places_ascend : (rows : List Row) → IsStrictlySortedBy line_cmp (map line_of rows) → IsStrictlySortedBy place_cmp (map place_of rows)
unfolding IsStrictlySortedBy
places_ascend [] h = tt
places_ascend (row ∷ rows) h = (below_places (place_of row) rows h.0, places_ascend rows h.1)

-- ---- each row has the totals of its place

-- what is there where there is a row
parts : (f : ℕ) (s sums : List ℕ) (flows : ℕ) → cond (eqb f 0) None (Some (total s f)) ≡ Some (total sums flows) → (0 < f) × (sums ≡ s) × (flows ≡ f)
parts f s sums flows h =
    elim (eqb_tells f 0) [
      | inl none ↦ absurd (none-some (total sums flows) (sym (ap (λ (b : Bool). cond b None (Some (total s f))) none.0) ∙ h))
      | inr some ↦
          let same : total s f ≡ total sums flows = same_Some _ _ (sym (ap (λ (b : Bool). cond b None (Some (total s f))) some.0) ∙ h) in
          (omega (arith, some.1), sym (ap (λ (t : Total). t.sums) same), sym (ap (λ (t : Total). t.flows) same))
    ]

row_is : (plan : PlanValue) (rs : List DataRecord) (row : Row) → totals_at plan rs row.interval row.key.items ≡ Some (total row.sums.items row.flows) → IsRow plan rs row
unfolding totals_at
row_is plan rs row h =
    let p = parts (flows_at plan rs row.interval row.key.items) (map (sum_at plan rs row.interval row.key.items) plan.counters) row.sums.items row.flows h in
    record { some = p.0; sums = p.1; flows = p.2 }

pub rows_are : (plan : PlanValue) (rs : List DataRecord) (rows : List Row) → All (λ l. totals_at plan rs l.0.0 l.0.1 ≡ Some l.1) (map line_of rows) → All (IsRow plan rs) rows
rows_are plan rs [] h = All-nil (IsRow plan rs)
rows_are plan rs (row ∷ rows) h =
    All-cons (IsRow plan rs) row rows (row_is plan rs row (All-head (λ l. totals_at plan rs l.0.0 l.0.1 ≡ Some l.1) (line_of row) (map line_of rows) h))
    (rows_are plan rs rows (All-tail (λ l. totals_at plan rs l.0.0 l.0.1 ≡ Some l.1) (line_of row) (map line_of rows) h))

-- ---- each place with a flow has a row

abbrev places : List Line → List (ℕ × List Cell)
places ls = map (λ l. l.0) ls

pub places_of_lines : (rows : List Row) → map place_of rows ≡ places (map line_of rows)
places_of_lines [] = refl
places_of_lines (row ∷ rows) = ap (λ (ps : List (ℕ × List Cell)). place_of row ∷ ps) (places_of_lines rows)

pub some_totals : (plan : PlanValue) (rs : List DataRecord) (k : ℕ) (q : List Cell) → 0 < flows_at plan rs k q
    → totals_at plan rs k q ≡ Some (total (map (sum_at plan rs k q) plan.counters) (flows_at plan rs k q))
unfolding totals_at
some_totals plan rs k q some =
    elim (eqb_tells (flows_at plan rs k q) 0) [
      | inl none ↦ absurd (omega (arith, none.1))
      | inr other ↦ ap (λ (b : Bool). cond b None (Some (total (map (sum_at plan rs k q) plan.counters) (flows_at plan rs k q)))) other.0
    ]

-- ---- the table

-- the rows of all totals of a list are the table of that list
pub finished : (plan : PlanValue) (rs : List DataRecord) (kept : ℕ → List Cell → Option Total) (table : Table)
    → ((k : ℕ) (key : List Cell) → kept k key ≡ totals_at plan rs k key) → AreLinesOf kept (map line_of table.rows.items) → table.tally ≡ tally_of plan rs → table.missing ≡ missing_of plan rs → IsTable plan rs table
finished plan rs kept table totals_are lines tally_is missing_is =
    record {
      ascending = places_ascend table.rows.items lines.ascend;
      rows = rows_are plan rs table.rows.items (λ i d within. sym (totals_are _ _) ∙ lines.own i d within);
      complete = λ k q some.
          subst (λ (ps : List (ℕ × List Cell)). Contains ps (k, q)) (sym (places_of_lines table.rows.items))
          (lines.complete k q _ (totals_are k q ∙ some_totals plan rs k q some));
      tally = tally_is;
      missing = missing_is;
    }
