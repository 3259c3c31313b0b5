-- Tables with the same rows.
use Rattle.std.specs.Prelude.{◌≡◌, ℕ, List, map, slice_index_or}
use Rattle.ipfix_elements.specs.declared.cell.Cell.{Cell}
use Rattle.flow_table.specs.declared.table.Row.{Row}
use Rattle.flow_table.specs.declared.table.Table.{Table}

-- what a row says, however its vectors are kept
pub record RowValue : Type 0 where
  pub interval : ℕ
  pub key : List Cell
  pub sums : List ℕ
  pub flows : ℕ

abbrev pub row_value : ℕ → List Cell → List ℕ → ℕ → RowValue
row_value interval key sums flows = record { interval = interval; key = key; sums = sums; flows = flows }

abbrev pub value_of : Row → RowValue
value_of row = row_value row.interval row.key.items row.sums.items row.flows

-- of the element at an index of a list this holds
abbrev pub AtIndex : {X : Type 0} → List X → ℕ → (X → Type 0) → Type 0
AtIndex {X} xs index P = (d : X) → P (slice_index_or xs index d)

-- the same rows in the same order, the same tally, and the same missing
pub record IsSameTable (t u : Table) : Type 0 where
  pub rows : map value_of t.rows.items ≡ map value_of u.rows.items
  pub tally : t.tally ≡ u.tally
  pub missing : t.missing ≡ u.missing
