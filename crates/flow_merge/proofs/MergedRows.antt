-- Rows of a plan, added up, fit the plan.
use Rattle.std.proofs.Common.{◌≡◌, ℕ, suc, ◌*◌, ◌^◌, ◌<◌, List, [], ◌∷◌, length, map, All, Option, Some, None, refl, sym, ap, ◌∙◌, subst, inl, inr}
use Rattle.std.specs.List.Sorted.{IsStrictlySortedBy}
use Rattle.std.proofs.lemmas.Bool.{cases_lt}
use Rattle.std.proofs.lemmas.List.Elements.{All-nil, All-cons, All-head, All-tail}
use Rattle.ipfix_elements.specs.declared.cell.Cell.{Cell}
use Rattle.flow_table.specs.AddedUp.{part_of, total_of, added_to, added_up, AddUpTooLarge, AreAddedUp}
use Rattle.flow_table.specs.Fitting.{FitsKeys, FitsPlan, FitsRow}
use Rattle.flow_table.specs.Plans.{PlanValue}
use Rattle.flow_table.specs.SameTables.{RowValue, value_of}
use Rattle.flow_table.specs.Tables.{place_cmp}
use Rattle.flow_table.specs.Totals.{Total, added, joined, HasLarge, IsLargeAt}
use Rattle.flow_table.specs.declared.table.Row.{Row}
use Rattle.flow_table.specs.declared.table.Table.{Table}
use Rattle.flow_table.proofs.AddedUp.{own_part, other_part, own_sums, place_tells}
use Rattle.flow_table.proofs.OneTable.{Among}
use Rattle.flow_table.proofs.RowsHeld.{places_of_values}
use Rattle.flow_merge.specs.RowRecords.{IsRowOf}

length-added : (xs ys : List ℕ) → length (added xs ys) ≡ length xs
length-added [] ys = refl
length-added (x ∷ xs) [] = refl
length-added (x ∷ xs) (y ∷ ys) = ap suc (length-added xs ys)

none_large : (sums : List ℕ) → (HasLarge sums → ⊥) → All (λ sum. sum < 2 ^ 64) sums
none_large [] small = All-nil (λ sum. sum < 2 ^ 64)
none_large (sum ∷ sums) small =
    All-cons (λ n. n < 2 ^ 64) sum sums (elim (cases_lt sum (2 ^ 64)) [ inl less ↦ less | inr large ↦ absurd (small (inl large)) ]) (none_large sums (λ h. small (inr h)))

module _ (plan : PlanValue) where
  -- what rows of the plan have at a place
  record FitsAt (k : ℕ) (key : List Cell) (t : Total) : Type 0 where
    interval : k * plan.length < 2 ^ 50
    fits : FitsKeys plan key
    sums : length t.sums ≡ length plan.counters

  abbrev Fits : ℕ → List Cell → Option Total → Type 0
  Fits k key None = Unit {0}
  Fits k key (Some t) = FitsAt k key t

  fits_joined : (k : ℕ) (key : List Cell) (a b : Option Total) → Fits k key a → Fits k key b → Fits k key (joined a b)
  fits_joined k key None None h i = tt
  fits_joined k key (Some t) None h i = h
  fits_joined k key None (Some u) h i = i
  fits_joined k key (Some t) (Some u) h i = record { interval = h.interval; fits = h.fits; sums = length-added t.sums u.sums ∙ h.sums }

  fits_part : (row : RowValue) (k : ℕ) (key : List Cell) → IsRowOf plan row → Fits k key (part_of row k key)
  fits_part row k key is =
      elim (place_tells row k key) [
        | inl here ↦
            subst (λ (z : ℕ × List Cell). Fits z.0 z.1 (part_of row z.0 z.1)) here
            (subst (Fits row.interval row.key) (sym (own_part row)) (record { interval = is.interval; fits = is.fits.key; sums = is.fits.sums }))
        | inr other ↦ subst (Fits k key) (sym (other_part row k key other)) tt
      ]

  fits_added : (before : Option Total) (rows : List RowValue) (k : ℕ) (key : List Cell) → Fits k key before → All (IsRowOf plan) rows → Fits k key (added_to before rows k key)
  fits_added before [] k key h are = h
  fits_added before (row ∷ rows) k key h are =
      fits_added (joined before (part_of row k key)) rows k key (fits_joined k key before (part_of row k key) h (fits_part row k key (All-head (IsRowOf plan) row rows are))) (All-tail (IsRowOf plan) row rows are)

  fits_sum : (rows : List RowValue) (k : ℕ) (key : List Cell) → All (IsRowOf plan) rows → Fits k key (added_up rows k key)
  unfolding added_up
  fits_sum rows k key are = fits_added None rows k key tt are

  module _ (rows : List RowValue) (are : All (IsRowOf plan) rows) (small : AddUpTooLarge rows → ⊥) where
    row_fits : (row : Row) → added_up rows row.interval row.key.items ≡ Some (total_of (value_of row)) → FitsRow plan row
    row_fits row is =
        let at = subst (Fits row.interval row.key.items) is (fits_sum rows row.interval row.key.items are) in
        let not_large = λ (h : IsLargeAt (Some (total_of (value_of row)))). small (row.interval, row.key.items, subst IsLargeAt (sym is) h) in
        record {
          interval = at.interval;
          key = at.fits;
          sums = at.sums;
          small = none_large row.sums.items (λ h. not_large (inl h));
          few = elim (cases_lt row.flows (2 ^ 64)) [ inl less ↦ less | inr large ↦ absurd (not_large (inr large)) ];
        }

    rows_fit : (out : List Row) → ((row : RowValue) → Among (map value_of out) row → added_up rows row.interval row.key ≡ Some (total_of row)) → All (FitsRow plan) out
    rows_fit [] own = All-nil (FitsRow plan)
    rows_fit (row ∷ out) own = All-cons (FitsRow plan) row out (row_fits row (own (value_of row) (inl refl))) (rows_fit out (λ other h. own other (inr h)))

    pub merged_fits : (table : Table) → AreAddedUp rows (map value_of table.rows.items) → FitsPlan plan table
    merged_fits table merged =
        record {
          ascending = subst (IsStrictlySortedBy place_cmp) (places_of_values table.rows.items) merged.ascending;
          rows = rows_fit table.rows.items (λ row h. sym (merged.same row.interval row.key) ∙ (own_sums (map value_of table.rows.items) merged.ascending).own row h);
        }
