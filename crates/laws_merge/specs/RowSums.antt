-- What rows add up to at an interval and a key, as sums over the rows that are there.
use Rattle.std.specs.Prelude.{◌≡◌, ℕ, ◌&&◌, List, length, filter, sum_by, slice_index}
use Rattle.std.specs.Ordering.{nat_cmp, is_eq}
use Rattle.ipfix_elements.specs.declared.cell.Cell.{Cell}
use Rattle.flow_table.specs.SameTables.{RowValue}
use Rattle.flow_table.specs.Tables.{key_cmp}
use Rattle.flow_table.specs.Totals.{Total}

-- the rows of an interval and a key
abbrev pub rows_at : List RowValue → ℕ → List Cell → List RowValue
rows_at rows k key = filter (λ row. is_eq (nat_cmp k row.interval) && is_eq (key_cmp key row.key)) rows

-- for each of this many counters the sum over rows, and the sum of their flows
pub record AreSumsOf (count : ℕ) (rows : List RowValue) (t : Total) : Type 0 where
  pub counters : length t.sums ≡ count
  pub sums : (i : ℕ) → slice_index t.sums i ≡ sum_by (λ row. slice_index row.sums i) rows
  pub flows : t.flows ≡ sum_by (λ row. row.flows) rows
