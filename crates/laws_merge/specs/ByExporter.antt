-- Tables by the exporters of their flows.
use Rattle.std.specs.Prelude.{◌≡◌, ℕ, ◌&&◌, Bool, false, List, [], ◌∷◌, filter, length, map, None, Some}
use Rattle.std.specs.Ordering.{nat_cmp, is_eq}
use Rattle.ipfix_elements.specs.declared.cell.Cell.{Cell}
use Rattle.ipfix_elements.specs.declared.kind.Kind.TheVariants as kinds
use Rattle.ipfix_message.specs.declared.record.DataRecord.{DataRecord}
use Rattle.flow_table.specs.declared.key.Key.{Key}
use Rattle.flow_table.specs.Plans.{PlanValue, exporter}
use Rattle.flow_table.specs.Reading.{cell_of}
use Rattle.flow_table.specs.SameTables.{RowValue}
use Rattle.flow_table.specs.Tables.{flows_at, key_cmp, sum_at}
use Rattle.flow_table.specs.Totals.{total}
use Rattle.laws_merge.specs.RowSums.{AreSumsOf}

abbrev pub exporter_key : Key
exporter_key = record { element = exporter; prefix = None }

-- the same plan with the address of the exporter before its keys
abbrev pub by_exporter : PlanValue → PlanValue
by_exporter plan = record plan { keys = exporter_key ∷ plan.keys; kinds = kinds.Ipv6 ∷ plan.kinds }

-- a record whose exporter is known
abbrev pub HasExporter : DataRecord → Type 0
HasExporter r = (cell : Cell) × (cell_of exporter_key kinds.Ipv6 r ≡ Some cell)

-- cells that go on so after the first
abbrev pub goes_on : List Cell → List Cell → Bool
goes_on key [] = false
goes_on key (cell ∷ cells) = is_eq (key_cmp key cells)

-- the rows of an interval that have this key after the exporter
abbrev pub rows_of_all : List RowValue → ℕ → List Cell → List RowValue
rows_of_all rows k key = filter (λ row. is_eq (nat_cmp k row.interval) && goes_on key row.key) rows

-- at each interval and key the rows of all exporters have the sums and the number of flows that records have without it
abbrev pub AddUpTo : PlanValue → List DataRecord → List RowValue → Type 0
AddUpTo plan rs rows = (k : ℕ) (key : List Cell)
    → AreSumsOf (length plan.counters) (rows_of_all rows k key) (total (map (sum_at plan rs k key) plan.counters) (flows_at plan rs k key))
