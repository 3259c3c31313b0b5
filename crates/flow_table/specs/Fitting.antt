-- Tables that fit a plan.
use Rattle.std.specs.Prelude.{◌≡◌, ℕ, ◌*◌, ◌^◌, ◌<◌, List, length, map, All}
use Rattle.std.specs.List.{AllZip}
use Rattle.std.specs.List.Sorted.{IsStrictlySortedBy}
use Rattle.ipfix_elements.specs.declared.cell.Cell.{Cell}
use Rattle.ipfix_elements.specs.declared.cell.Cell.TheVariants as cells
use Rattle.ipfix_elements.specs.declared.kind.Kind.{Kind}
use Rattle.ipfix_elements.specs.declared.kind.Kind.TheVariants as kinds
use Rattle.ipfix_elements.specs.Values.{octets_of}
use Rattle.ipfix_message.specs.declared.record.DataRecord.{DataRecord}
use Rattle.flow_table.specs.declared.table.Row.{Row}
use Rattle.flow_table.specs.declared.table.Table.{Table}
use Rattle.flow_table.specs.Plans.{PlanValue}
use Rattle.flow_table.specs.Tables.{flows_at, place_of, place_cmp}

-- a cell of a kind: a number that has room in the kind's width, or an address with all of its octets
abbrev pub IsCellOf : Kind → Cell → Type 0
IsCellOf (kinds.Unsigned width) (cells.Number n) = n < 256 ^ octets_of width
IsCellOf kinds.Ipv4 (cells.Ipv4 address) = length address ≡ 4
IsCellOf kinds.Ipv6 (cells.Ipv6 address) = length address ≡ 16
IsCellOf kinds.Mac (cells.Mac address) = length address ≡ 6
IsCellOf kind cell = ⊥

-- a kind for each key, and a cell of it
pub record FitsKeys (plan : PlanValue) (cells : List Cell) : Type 0 where
  pub beside : length plan.kinds ≡ length plan.keys
  pub fit : AllZip IsCellOf plan.kinds cells

-- an interval that begins in time, a cell for each key, a sum for each counter, and numbers that have a place in 64 bits
pub record FitsRow (plan : PlanValue) (row : Row) : Type 0 where
  pub interval : row.interval * plan.length < 2 ^ 50
  pub key : FitsKeys plan row.key.items
  pub sums : length row.sums.items ≡ length plan.counters
  pub small : All (λ sum. sum < 2 ^ 64) row.sums.items
  pub few : row.flows < 2 ^ 64

-- rows that fit, in order
pub record FitsPlan (plan : PlanValue) (table : Table) : Type 0 where
  pub ascending : IsStrictlySortedBy place_cmp (map place_of table.rows.items)
  pub rows : All (FitsRow plan) table.rows.items

-- the keys of all flows of a list fit
abbrev pub KeysFit : PlanValue → List DataRecord → Type 0
KeysFit plan rs = (k : ℕ) (key : List Cell) → 0 < flows_at plan rs k key → FitsKeys plan key
