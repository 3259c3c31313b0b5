-- The rows of tables, added up, are those of the table of all their records.
use Rattle.std.proofs.Common.{◌≡◌, ◌<◌, ℕ, Bool, cond, List, [], ◌∷◌, ◌++◌, map, All, Contains, Option, Some, None, refl, sym, ap, ◌∙◌, subst, inl, inr, arith, append_assoc}
use Rattle.std.specs.Prelude.{◌↔◌}
use Rattle.std.specs.List.{AllZip, flat_map}
use Rattle.std.specs.List.Sorted.{IsStrictlySortedBy}
use Rattle.std.proofs.lemmas.Bool.Decides.{eqb_tells}
use Rattle.std.proofs.lemmas.List.{append-nil}
use Rattle.std.proofs.lemmas.List.Elements.{All-nil, All-cons, All-head, All-tail, Contains-append_right}
use Rattle.ipfix_elements.specs.declared.cell.Cell.{Cell}
use Rattle.ipfix_message.specs.declared.record.DataRecord.{DataRecord}
use Rattle.flow_table.specs.AddedUp.{place, total_of, added_to, added_up, rows_in, AreAddedUp, AddUpTooLarge, HasTooLargeRow, all_records}
use Rattle.flow_table.specs.Bags.{IsSameBag}
use Rattle.flow_table.specs.Finishing.{line_of}
use Rattle.flow_table.specs.Partials.{totals_at}
use Rattle.flow_table.specs.Missing.{missing_of}
use Rattle.flow_table.specs.Plans.{PlanValue}
use Rattle.flow_table.specs.SameTables.{RowValue, value_of}
use Rattle.flow_table.specs.Tables.{place_of, place_cmp, sum_at, flows_at, tally_of, IsRow, IsTable}
use Rattle.flow_table.specs.Totals.{Total, total, IsLargeAt}
use Rattle.flow_table.specs.declared.table.Row.{Row}
use Rattle.flow_table.specs.declared.table.Table.{Table}
use Rattle.flow_table.proofs.AddedUp.{added_to-append, place_or_none, added_once, own_sums, AreTotalsOf}
use Rattle.flow_table.proofs.Bags.{table_bag}
use Rattle.flow_table.proofs.Finished.{some_totals, rows_are}
use Rattle.flow_table.proofs.Holding.{no_totals}
use Rattle.flow_table.proofs.OneTable.{Among, among, same_table}
use Rattle.flow_table.proofs.RowsHeld.{places_of_values}
use Rattle.flow_table.proofs.Sums.{totals_at-append, too_large_row_at, large_row}

-- ---- the totals of a table's rows

none_of : (plan : PlanValue) (rs : List DataRecord) (k : ℕ) (q : List Cell) → (0 < flows_at plan rs k q → ⊥) → totals_at plan rs k q ≡ None
unfolding totals_at
none_of plan rs k q never =
    elim (eqb_tells (flows_at plan rs k q) 0) [
      | inl y ↦ ap (λ (b : Bool). cond b None (Some (total (map (sum_at plan rs k q) plan.counters) (flows_at plan rs k q)))) y.0
      | inr n ↦ absurd (never (omega (arith, n.1)))
    ]

row_totals : (plan : PlanValue) (rs : List DataRecord) (row : Row) → IsRow plan rs row → totals_at plan rs row.interval row.key.items ≡ Some (total_of (value_of row))
row_totals plan rs row is =
    some_totals plan rs row.interval row.key.items is.some
    ∙ ap (λ (xs : List ℕ). Some (total xs (flows_at plan rs row.interval row.key.items))) (sym is.sums)
    ∙ ap (λ (n : ℕ). Some (total row.sums.items n)) (sym is.flows)

own_totals : (plan : PlanValue) (rs : List DataRecord) (rows : List Row) → All (IsRow plan rs) rows → (row : RowValue) → Among (map value_of rows) row → totals_at plan rs row.interval row.key ≡ Some (total_of row)
own_totals plan rs [] all row h = absurd h
own_totals plan rs (x ∷ xs) all row (inl here) =
    subst (λ (w : RowValue). totals_at plan rs w.interval w.key ≡ Some (total_of w)) here (row_totals plan rs x (All-head (IsRow plan rs) x xs all))
own_totals plan rs (x ∷ xs) all row (inr later) = own_totals plan rs xs (All-tail (IsRow plan rs) x xs all) row later

table_totals : (plan : PlanValue) (rs : List DataRecord) (t : Table) → IsTable plan rs t → AreTotalsOf (totals_at plan rs) (rows_in t)
table_totals plan rs t is =
    record {
      ascending = subst (IsStrictlySortedBy place_cmp) (sym (places_of_values t.rows.items)) is.ascending;
      own = own_totals plan rs t.rows.items is.rows;
      none = λ k q none. none_of plan rs k q (λ some. none
          (subst (λ (ps : List (ℕ × List Cell)). Among ps (k, q)) (sym (places_of_values t.rows.items)) (among (map place_of t.rows.items) (k, q) (is.complete k q some))));
    }

-- ---- tables, one after another

tables_after : (plan : PlanValue) (rs : List DataRecord) (lists : List (List DataRecord)) (tables : List Table) (k : ℕ) (q : List Cell) → AllZip (IsTable plan) lists tables
    → added_to (totals_at plan rs k q) (flat_map rows_in tables) k q ≡ totals_at plan (rs ++ all_records lists) k q
tables_after plan rs [] [] k q are = ap (λ (l : List DataRecord). totals_at plan l k q) (sym (append-nil rs))
tables_after plan rs [] (t ∷ ts) k q are = absurd are
tables_after plan rs (l ∷ ls) [] k q are = absurd are
tables_after plan rs (l ∷ ls) (t ∷ ts) k q are =
    added_to-append (totals_at plan rs k q) (rows_in t) (flat_map rows_in ts) k q
    ∙ ap (λ (o : Option Total). added_to o (flat_map rows_in ts) k q) (added_once (totals_at plan l) (rows_in t) (totals_at plan rs k q) k q (table_totals plan l t are.0) ∙ sym (totals_at-append plan rs l k q))
    ∙ tables_after plan (rs ++ l) ls ts k q are.1
    ∙ ap (λ (m : List DataRecord). totals_at plan m k q) (append_assoc rs l (all_records ls))

pub tables_totals : (plan : PlanValue) (lists : List (List DataRecord)) (tables : List Table) (k : ℕ) (q : List Cell) → AllZip (IsTable plan) lists tables
    → added_up (flat_map rows_in tables) k q ≡ totals_at plan (all_records lists) k q
unfolding added_up
tables_totals plan lists tables k q are =
    ap (λ (o : Option Total). added_to o (flat_map rows_in tables) k q) (no_totals plan k q) ∙ tables_after plan [] lists tables k q are

-- ---- the table of all

own_lines : (plan : PlanValue) (rs : List DataRecord) (rows : List Row) → ((row : RowValue) → Among (map value_of rows) row → totals_at plan rs row.interval row.key ≡ Some (total_of row))
    → All (λ l. totals_at plan rs l.0.0 l.0.1 ≡ Some l.1) (map line_of rows)
own_lines plan rs [] own = All-nil (λ l. totals_at plan rs l.0.0 l.0.1 ≡ Some l.1)
own_lines plan rs (row ∷ rows) own =
    All-cons (λ l. totals_at plan rs l.0.0 l.0.1 ≡ Some l.1) (line_of row) (map line_of rows) (own (value_of row) (inl refl)) (own_lines plan rs rows (λ r h. own r (inr h)))

contained : (rows : List RowValue) (row : RowValue) (z : ℕ × List Cell) → Among rows row → place row ≡ z → Contains (map place rows) z
contained [] row z h at = absurd h
contained (x ∷ xs) row z (inl here) at = (0, omega arith, ap place here ∙ at)
contained (x ∷ xs) row z (inr later) at = Contains-append_right (place x ∷ []) (map place xs) z (contained xs row z later at)

placed : (rows : List RowValue) (k : ℕ) (q : List Cell) (t : Total) → IsStrictlySortedBy place_cmp (map place rows) → added_up rows k q ≡ Some t → Contains (map place rows) (k, q)
placed rows k q t sorted is =
    elim (place_or_none rows k q) [
      | inl found ↦ contained rows found.0 (k, q) found.1 found.2
      | inr none ↦ absurd (let missing = (own_sums rows sorted).none k q none in cc)
    ]

pub is_table : (plan : PlanValue) (rs : List DataRecord) (rows : List RowValue) (all : Table) → ((k : ℕ) (q : List Cell) → added_up rows k q ≡ totals_at plan rs k q)
    → AreAddedUp rows (rows_in all) → all.tally ≡ tally_of plan rs → all.missing ≡ missing_of plan rs → IsTable plan rs all
is_table plan rs rows all totals are tally_is missing_is =
    record {
      ascending = subst (IsStrictlySortedBy place_cmp) (places_of_values all.rows.items) are.ascending;
      rows = rows_are plan rs all.rows.items (own_lines plan rs all.rows.items (λ row h.
          sym (totals row.interval row.key) ∙ sym (are.same row.interval row.key) ∙ (own_sums (rows_in all) are.ascending).own row h));
      complete = λ k q some. subst (λ (ps : List (ℕ × List Cell)). Contains ps (k, q)) (places_of_values all.rows.items)
          (placed (rows_in all) k q _ are.ascending (are.same k q ∙ totals k q ∙ some_totals plan rs k q some));
      tally = tally_is;
      missing = missing_is;
    }

pub tables_are_added : (plan : PlanValue) (lists : List (List DataRecord)) (tables : List Table) (all : Table) → AllZip (IsTable plan) lists tables
    → AreAddedUp (flat_map rows_in tables) (rows_in all) → all.tally ≡ tally_of plan (all_records lists) → all.missing ≡ missing_of plan (all_records lists) → IsTable plan (all_records lists) all
tables_are_added plan lists tables all are sums tally_is missing_is = is_table plan (all_records lists) (flat_map rows_in tables) all (λ k q. tables_totals plan lists tables k q are) sums tally_is missing_is

-- ---- too large

too_large_there : (plan : PlanValue) (lists : List (List DataRecord)) (tables : List Table) → AllZip (IsTable plan) lists tables → AddUpTooLarge (flat_map rows_in tables) → HasTooLargeRow plan (all_records lists)
too_large_there plan lists tables are large = too_large_row_at plan (all_records lists) large.0 large.1 (subst IsLargeAt (tables_totals plan lists tables large.0 large.1 are) large.2)

too_large_here : (plan : PlanValue) (lists : List (List DataRecord)) (tables : List Table) → AllZip (IsTable plan) lists tables → HasTooLargeRow plan (all_records lists) → AddUpTooLarge (flat_map rows_in tables)
too_large_here plan lists tables are large =
    let at = large_row plan (all_records lists) large in
    (at.0, at.1, subst IsLargeAt (sym (tables_totals plan lists tables at.0 at.1 are)) at.2)

pub too_large_both : (plan : PlanValue) (lists : List (List DataRecord)) (tables : List Table) → AllZip (IsTable plan) lists tables → AddUpTooLarge (flat_map rows_in tables) ↔ HasTooLargeRow plan (all_records lists)
too_large_both plan lists tables are = (too_large_there plan lists tables are, too_large_here plan lists tables are)

-- ---- any order

pub any_order : (plan : PlanValue) (lists others : List (List DataRecord)) (tables more : List Table) (a b : Table) → AllZip (IsTable plan) lists tables → AllZip (IsTable plan) others more → IsSameBag (all_records lists) (all_records others)
    → AreAddedUp (flat_map rows_in tables) (rows_in a) → AreAddedUp (flat_map rows_in more) (rows_in b) → rows_in a ≡ rows_in b
any_order plan lists others tables more a b are them same first second =
    let t : Table = record a { tally = tally_of plan (all_records lists); missing = missing_of plan (all_records lists) } in
    let u : Table = record b { tally = tally_of plan (all_records others); missing = missing_of plan (all_records others) } in
    let is_t : IsTable plan (all_records lists) t = tables_are_added plan lists tables t are first refl refl in
    let is_u : IsTable plan (all_records others) u = tables_are_added plan others more u them second refl refl in
    (same_table plan (all_records others) t u (table_bag plan (all_records lists) (all_records others) t same is_t) is_u).rows
