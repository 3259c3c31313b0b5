-- What totals of rows hold after one more row, and when they are finished.
use Rattle.std.proofs.Common.{◌≡◌, ℕ, List, [], ◌∷◌, ◌++◌, map, All, Contains, Option, Some, None, refl, sym, ap, ◌∙◌, subst, inl, inr}
use Rattle.std.specs.List.Sorted.{IsStrictlySortedBy}
use Rattle.std.proofs.lemmas.List.Elements.{All-head, All-tail}
use Rattle.ipfix_elements.specs.declared.cell.Cell.{Cell}
use Rattle.flow_table.specs.AddedUp.{place, total_of, part_of, added_up, AreAddedUp, AddUpTooLarge}
use Rattle.flow_table.specs.Finishing.{AreLinesOf, line_of}
use Rattle.flow_table.specs.Plans.{PlanValue}
use Rattle.flow_table.specs.RowTotals.{HoldsRows}
use Rattle.flow_table.specs.Rows.{AreRowsOf, AreSmall, kept_at, place_part}
use Rattle.flow_table.specs.SameTables.{RowValue, value_of}
use Rattle.flow_table.specs.Tables.{place_of, place_cmp}
use Rattle.flow_table.specs.Totals.{Total, joined, IsLargeAt}
use Rattle.flow_table.specs.declared.rows.Rows.{Rows}
use Rattle.flow_table.specs.declared.table.Row.{Row}
use Rattle.flow_table.proofs.AddedUp.{added_up-push, added_up-none, own_part, AreTotalsOf, added_up-once}
use Rattle.flow_table.proofs.Finished.{places_ascend, places_of_lines}
use Rattle.flow_table.proofs.OneTable.{Among, among}

module _ (plan : PlanValue) where
  pub holds_none : (kept : Rows) → AreRowsOf plan kept → ((k : ℕ) (q : List Cell) → kept_at plan kept k q ≡ None) → HoldsRows plan kept []
  holds_none kept of_plan empty =
      record {
        of_plan = of_plan;
        totals_are = λ k q. empty k q ∙ sym (added_up-none k q);
        small = λ large. subst IsLargeAt (added_up-none large.0 large.1) large.2;
      }

  pub held_more : (old new : Rows) (rows : List RowValue) (row : RowValue) → HoldsRows plan old rows → AreRowsOf plan new
      → ((k : ℕ) (q : List Cell) → kept_at plan new k q ≡ joined (kept_at plan old k q) (place_part row.interval row.key (total_of row) k q))
      → AreSmall plan new → HoldsRows plan new (rows ++ row ∷ [])
  held_more old new rows row held of_plan step fits =
      record {
        of_plan = of_plan;
        totals_are = totals;
        small = λ large. fits large.0 large.1 (subst IsLargeAt (sym (totals large.0 large.1)) large.2);
      }
    where
      totals : (k : ℕ) (q : List Cell) → kept_at plan new k q ≡ added_up (rows ++ row ∷ []) k q
      totals k q = step k q ∙ ap (λ (o : Option Total). joined o (part_of row k q)) (held.totals_are k q) ∙ sym (added_up-push rows row k q)

  pub held_large : (old : Rows) (rows : List RowValue) (row : RowValue) → HoldsRows plan old rows
      → IsLargeAt (joined (kept_at plan old row.interval row.key) (Some (total_of row))) → AddUpTooLarge (rows ++ row ∷ [])
  held_large old rows row held large = (
    row.interval,
    row.key,
    subst IsLargeAt
        (ap (λ (o : Option Total). joined o (Some (total_of row))) (held.totals_are row.interval row.key)
        ∙ sym (added_up-push rows row row.interval row.key ∙ ap (λ (o : Option Total). joined (added_up rows row.interval row.key) o) (own_part row))) large,
  )

-- ---- finished

pub places_of_values : (rows : List Row) → map place (map value_of rows) ≡ map place_of rows
places_of_values [] = refl
places_of_values (row ∷ rows) = ap (λ (ps : List (ℕ × List Cell)). place_of row ∷ ps) (places_of_values rows)

own_lines : (f : ℕ → List Cell → Option Total) (rows : List Row) → All (λ l. f l.0.0 l.0.1 ≡ Some l.1) (map line_of rows) → (row : RowValue) → Among (map value_of rows) row → f row.interval row.key ≡ Some (total_of row)
own_lines f [] all row h = absurd h
own_lines f (x ∷ xs) all row (inl here) =
    subst (λ (w : RowValue). f w.interval w.key ≡ Some (total_of w)) here (All-head (λ l. f l.0.0 l.0.1 ≡ Some l.1) (line_of x) (map line_of xs) all)
own_lines f (x ∷ xs) all row (inr later) = own_lines f xs (All-tail (λ l. f l.0.0 l.0.1 ≡ Some l.1) (line_of x) (map line_of xs) all) row later

kept_none : (f : ℕ → List Cell → Option Total) (rows : List Row) (k : ℕ) (q : List Cell) (o : Option Total) → f k q ≡ o → AreLinesOf f (map line_of rows) → (Among (map place (map value_of rows)) (k, q) → ⊥) → o ≡ None
kept_none f rows k q None is lines none = refl
kept_none f rows k q (Some t) is lines none =
    let same = places_of_values rows ∙ places_of_lines rows in
    absurd (none (among (map place (map value_of rows)) (k, q) (subst (λ (ps : List (ℕ × List Cell)). Contains ps (k, q)) (sym same) (lines.complete k q t is))))

pub finished_rows : (f : ℕ → List Cell → Option Total) (rows : List RowValue) (out : List Row) → ((k : ℕ) (q : List Cell) → f k q ≡ added_up rows k q) → AreLinesOf f (map line_of out) → AreAddedUp rows (map value_of out)
finished_rows f rows out held lines =
    record {
      ascending = sorted;
      same = λ k q. added_up-once f (map value_of out) k q are ∙ held k q;
    }
  where
    sorted : IsStrictlySortedBy place_cmp (map place (map value_of out))
    sorted = subst (IsStrictlySortedBy place_cmp) (sym (places_of_values out)) (places_ascend out lines.ascend)

    are : AreTotalsOf f (map value_of out)
    are =
        record {
          ascending = sorted;
          own = own_lines f out lines.own;
          none = λ k q none. kept_none f out k q (f k q) refl lines none;
        }
