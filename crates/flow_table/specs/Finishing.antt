-- The rows of a finished table.
use Rattle.std.specs.Prelude.{◌≡◌, ℕ, suc, List, length, map, All, Contains, drop, slice_index_or, Option, Some}
use Rattle.std.specs.List.Sorted.{IsStrictlySortedBy}
use Rattle.std.specs.declared.cmp.Ordering.{Ordering}
use Rattle.flow_rows.specs.Rows.{Row as FlatRow, IsRun, total_at}
use Rattle.ipfix_elements.specs.declared.cell.Cell.{Cell}
use Rattle.ipfix_elements.specs.declared.kind.Kind.{Kind}
use Rattle.flow_table.specs.declared.rows.Rows.{Rows}
use Rattle.flow_table.specs.declared.table.Row.{Row}
use Rattle.flow_table.specs.Plans.{PlanValue}
use Rattle.flow_table.specs.Rows.{rows_in}
use Rattle.flow_table.specs.Tables.{place_of, place_cmp}
use Rattle.flow_table.specs.Totals.{Total, total}
use Rattle.flow_table.specs.Words.{first_of, key_from}

-- where a row stands, and its totals
abbrev pub Line : Type 0
Line = (ℕ × List Cell) × Total

abbrev pub line_of : Row → Line
line_of row = (place_of row, total row.sums.items row.flows)

abbrev pub line_cmp : Line → Line → Ordering
line_cmp a b = place_cmp a.0 b.0

-- the line of words and numbers under these kinds and so many counters
abbrev pub line_from : List Kind → ℕ → FlatRow → Line
line_from kinds n x =
    ((slice_index_or x.key 0 0, key_from kinds (drop 1 x.key)), total (first_of n (λ i. slice_index_or x.numbers (suc i) 0)) (slice_index_or x.numbers 0 0))

-- the lines of a run that has the numbers of rows
pub record AreRunLines (kinds : List Kind) (n : ℕ) (rows : List FlatRow) (lines : List Line) : Type 0 where
  pub run : List FlatRow
  pub ascends : IsRun run
  pub same : (q : List ℕ) (i : ℕ) → total_at run q i ≡ total_at rows q i
  pub are : lines ≡ map (line_from kinds n) run

-- those of the rows of a plan
abbrev pub AreLinesFrom : PlanValue → Rows → List Line → Type 0
AreLinesFrom plan rows lines = AreRunLines plan.kinds (length plan.counters) (rows_in rows) lines

-- the lines of all totals, in order
pub record AreLinesOf (kept : ℕ → List Cell → Option Total) (lines : List Line) : Type 0 where
  pub ascend : IsStrictlySortedBy line_cmp lines
  pub own : All (λ l. kept l.0.0 l.0.1 ≡ Some l.1) lines
  pub complete : (k : ℕ) (key : List Cell) (t : Total) → kept k key ≡ Some t → Contains (map (λ l. l.0) lines) (k, key)
