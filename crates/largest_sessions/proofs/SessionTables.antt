-- What sessions have by their records is what they have by the rows of their tables.
use Rattle.std.proofs.Common.{◌≡◌, ◌≢◌, ℕ, zero, suc, ◌+◌, List, [], ◌∷◌, ◌++◌, map, All, refl, sym, ap₂, ◌∙◌, subst, inl, inr, arith}
use Rattle.std.specs.Prelude.{slice_index_or}
use Rattle.std.specs.List.{AllZip}
use Rattle.std.specs.List.Sorted.{IsStrictlySortedBy}
use Rattle.std.proofs.lemmas.Bool.Decides.{eqb_tells}
use Rattle.std.proofs.lemmas.Map.Keys.{sorted_tail}
use Rattle.std.proofs.lemmas.List.Elements.{All-nil, All-cons, All-head, All-tail}
use Rattle.ipfix_message.specs.declared.record.DataRecord.{DataRecord}
use Rattle.ipfix_wire.specs.declared.specifier.ElementId.{ElementId}
use Rattle.flow_table.specs.declared.table.Row.{Row}
use Rattle.flow_table.specs.declared.table.Table.{Table}
use Rattle.flow_table.specs.AddedUp.{place, rows_in}
use Rattle.flow_table.specs.Fitting.{FitsPlan}
use Rattle.flow_table.specs.Plans.{PlanValue}
use Rattle.flow_table.specs.SameTables.{RowValue, value_of}
use Rattle.flow_table.specs.Tables.{place_of, place_cmp, sum_at, flows_at, IsRow, IsTable}
use Rattle.flow_table.proofs.AddedUp.{among_map, not_later, place_or_none}
use Rattle.flow_table.proofs.OneTable.{Among, among}
use Rattle.flow_table.proofs.RowsHeld.{places_of_values}
use Rattle.flow_table.proofs.Sums.{sum_at-none}
use Rattle.largest_sessions.specs.LeftOut.{Place, AreLeftOut}
use Rattle.largest_sessions.specs.SessionNumbers.{AreLeftOutOf, numbers_of_plan, by_records, by_rows, number_of}
use Rattle.largest_sessions.specs.Walks.{Rows, Ascend}
use Rattle.largest_sessions.proofs.LeftAlike.{Agree, left_out-agree}
use Rattle.largest_sessions.proofs.Rests.{off_place, at_place}

-- ---- the rows of a table

pub ascend_in : (plan : PlanValue) (table : Table) → FitsPlan plan table → Ascend (rows_in table)
ascend_in plan table fits = subst (IsStrictlySortedBy place_cmp) (sym (places_of_values table.rows.items)) fits.ascending

pub all_ascend : (plan : PlanValue) (tables : List Table) → All (FitsPlan plan) tables → All Ascend (map rows_in tables)
all_ascend plan [] fits = All-nil Ascend
all_ascend plan (table ∷ tables) fits =
    All-cons Ascend (rows_in table) (map rows_in tables) (ascend_in plan table (All-head (FitsPlan plan) table tables fits)) (all_ascend plan tables (All-tail (FitsPlan plan) table tables fits))

no_row : (rows : Rows) (p : Place) (n : ℕ) → (Among (map place rows) p → ⊥) → by_rows rows p n ≡ 0
no_row [] p n none = refl
no_row (row ∷ rows) p n none = ap₂ (λ (a b : ℕ). a + b) (off_place row p n (λ here. none (inl here))) (no_row rows p n (λ later. none (inr later)))

one_row : (rows : Rows) (row : RowValue) (n : ℕ) → Ascend rows → Among rows row → by_rows rows (place row) n ≡ number_of row n
one_row [] row n ascend there = absurd there
one_row (first ∷ rows) row n ascend (inl here) =
    subst (λ (r : RowValue). by_rows (first ∷ rows) (place r) n ≡ number_of r n) here
    (omega (arith, at_place first (place first) n refl, no_row rows (place first) n (not_later first rows ascend)))
one_row (first ∷ rows) row n ascend (inr later) =
    let other : place first ≢ place row = λ here. not_later first rows ascend (subst (Among (map place rows)) (sym here) (among_map place rows row later)) in
    omega (arith, off_place first (place row) n other, one_row rows row n (sorted_tail place_cmp (place first) (map place rows) ascend) later)

-- ---- the rows of records

row_numbers : (plan : PlanValue) (rs : List DataRecord) (rows : List Row) (row : RowValue) (n : ℕ) → All (IsRow plan rs) rows → Among (map value_of rows) row → by_records plan rs (place row) n ≡ number_of row n
row_numbers plan rs [] row n are there = absurd there
row_numbers plan rs (first ∷ rows) row n are (inl here) =
    let is : IsRow plan rs first = All-head (IsRow plan rs) first rows are in
    subst (λ (r : RowValue). by_records plan rs (place r) n ≡ number_of r n) here
    (ap₂ (λ (sums : List ℕ) (flows : ℕ). slice_index_or (sums ++ flows ∷ []) n 0) (sym is.sums) (sym is.flows))
row_numbers plan rs (first ∷ rows) row n are (inr later) = row_numbers plan rs rows row n (All-tail (IsRow plan rs) first rows are) later

all_zero : (plan : PlanValue) (rs : List DataRecord) (p : Place) (counters : List ElementId) (n : ℕ) → flows_at plan rs p.0 p.1 ≡ 0 → slice_index_or (map (sum_at plan rs p.0 p.1) counters ++ flows_at plan rs p.0 p.1 ∷ []) n 0 ≡ 0
all_zero plan rs p [] zero none = none
all_zero plan rs p [] (suc n) none = refl
all_zero plan rs p (c ∷ counters) zero none = sum_at-none plan rs p.0 p.1 c none
all_zero plan rs p (c ∷ counters) (suc n) none = all_zero plan rs p counters n none

no_flows : (plan : PlanValue) (rs : List DataRecord) (table : Table) (p : Place) → IsTable plan rs table → (Among (map place (rows_in table)) p → ⊥) → flows_at plan rs p.0 p.1 ≡ 0
no_flows plan rs table p is none = elim (eqb_tells (flows_at plan rs p.0 p.1) 0) [
  | inl zero_there ↦ zero_there.1
  | inr some ↦ absurd (none (subst (λ (ps : List Place). Among ps p) (sym (places_of_values table.rows.items)) (among (map place_of table.rows.items) p (is.complete p.0 p.1 (omega (arith, some.1))))))
]

same_numbers : (plan : PlanValue) (rs : List DataRecord) (table : Table) → IsTable plan rs table → (p : Place) (n : ℕ) → by_records plan rs p n ≡ by_rows (rows_in table) p n
same_numbers plan rs table is p n = elim (place_or_none (rows_in table) p.0 p.1) [
  | inl found ↦
      let ascend : Ascend (rows_in table) = subst (IsStrictlySortedBy place_cmp) (sym (places_of_values table.rows.items)) is.ascending in
      let here : by_records plan rs (place found.0) n ≡ by_rows (rows_in table) (place found.0) n =
      row_numbers plan rs table.rows.items found.0 n is.rows found.1 ∙ sym (one_row (rows_in table) found.0 n ascend found.1) in
      subst (λ (q : Place). by_records plan rs q n ≡ by_rows (rows_in table) q n) found.2 here
  | inr none ↦ all_zero plan rs p plan.counters n (no_flows plan rs table p is none) ∙ sym (no_row (rows_in table) p n none)
]

-- ---- sessions

same_sessions : (plan : PlanValue) (count : ℕ) (lists : List (List DataRecord)) (tables : List Table) → AllZip (IsTable plan) lists tables → Agree count (λ q. ⊥) (map (by_records plan) lists) (map by_rows (map rows_in tables))
same_sessions plan count [] [] are = tt
same_sessions plan count [] (table ∷ tables) are = absurd are
same_sessions plan count (rs ∷ lists) [] are = absurd are
same_sessions plan count (rs ∷ lists) (table ∷ tables) are = (λ q other n counted. same_numbers plan rs table are.0 q n, same_sessions plan count lists tables are.1)

pub left_out_by_records : (plan : PlanValue) (lists : List (List DataRecord)) (tables : List Table) (out : List ℕ) → AllZip (IsTable plan) lists tables
    → AreLeftOut (numbers_of_plan plan) (map by_rows (map rows_in tables)) out → AreLeftOutOf plan out lists
left_out_by_records plan lists tables out are left =
    left_out-agree (numbers_of_plan plan) (λ q. ⊥) (λ q. inr (λ h. h)) (map (by_records plan) lists) (map by_rows (map rows_in tables)) (same_sessions plan (numbers_of_plan plan) lists tables are)
    (λ q there. absurd there) (λ q there. absurd there) out left
