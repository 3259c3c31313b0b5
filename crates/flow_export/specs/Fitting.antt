-- Rows that have the fields of a plan, and elements that have room.
use Rattle.std.specs.Prelude.{◌≡◌, ◌*◌, ◌<◌, ◌^◌, length}
use Rattle.ipfix_wire.specs.declared.specifier.ElementId.{ElementId}
use Rattle.flow_table.specs.Fitting.{FitsKeys}
use Rattle.flow_table.specs.Plans.{PlanValue}
use Rattle.flow_table.specs.SameTables.{RowValue}

-- a cell for each key, of its kind, and a sum for each counter
pub record FitsValue (plan : PlanValue) (row : RowValue) : Type 0 where
  pub key : FitsKeys plan row.key
  pub sums : length row.sums ≡ length plan.counters

-- a row that has an export: an interval that begins in time, and the fields of the plan
pub record IsExportable (plan : PlanValue) (row : RowValue) : Type 0 where
  pub interval : row.interval * plan.length < 2 ^ 50
  pub fields : FitsValue plan row

-- an element whose number has room in 15 bits (RFC 7011, section 3.2)
abbrev pub HasNumber : ElementId → Type 0
HasNumber element = element.number < 2 ^ 15
