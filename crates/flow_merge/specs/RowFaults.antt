-- Why a data record is no row's under a plan.
use Rattle.std.specs.Prelude.{◌≡◌, ℕ, ◌+◌, ◌-◌, ◌*◌, ◌^◌, ◌<◌, List, length, All, codes}
use Rattle.ipfix_elements.specs.declared.cell.Cell.{Cell}
use Rattle.ipfix_message.specs.Fields.{Field}
use Rattle.ipfix_message.specs.declared.record.DataRecord.{DataRecord}
use Rattle.flow_table.specs.Fitting.{FitsKeys}
use Rattle.flow_table.specs.Plans.{PlanValue}
use Rattle.flow_export.specs.IpfixText.{fields_of}
use Rattle.flow_merge.specs.declared.row_fault.RowFault.{RowFault}
use Rattle.flow_merge.specs.declared.row_fault.RowFault.TheVariants.{OutOfMemory, Template, Fields, Interval, Prefix, Flows, Border}
use Rattle.flow_merge.specs.RowRecords.{AreProjected, IsOfTemplate, IsWithin}
use Rattle.flow_export.specs.declared.intervals.Intervals.{Intervals}
use Rattle.flow_export.specs.declared.intervals.Intervals.TheVariants.{OfPlan, Between}

-- what the fields of a plan's exports tell: two times in milliseconds, a cell for each key, a sum for each counter, and a
-- number of flows
pub record FieldValues : Type 0 where
  pub start : ℕ
  pub end : ℕ
  pub key : List Cell
  pub sums : List ℕ
  pub flows : ℕ

-- the fields tell them, in the order of the plan's exports and in their full width
pub record Tell (plan : PlanValue) (fields : List Field) (v : FieldValues) : Type 0 where
  pub told : fields ≡ fields_of plan v.start v.end v.key v.sums v.flows
  pub key : FitsKeys plan v.key
  pub sums : length v.sums ≡ length plan.counters
  pub start : v.start < 2 ^ 64
  pub end : v.end < 2 ^ 64
  pub small : All (λ sum. sum < 2 ^ 64) v.sums
  pub few : v.flows < 2 ^ 64

-- the first and the last millisecond of an interval that begins in time
pub record IsInterval (plan : PlanValue) (k : ℕ) (v : FieldValues) : Type 0 where
  pub start : v.start ≡ k * plan.length
  pub end : v.end ≡ k * plan.length + plan.length - 1
  pub in_time : v.start < 2 ^ 50

-- the values are put in interval k: they are the plan's interval, or are within the one between borders
abbrev pub IsPutIn : Intervals → PlanValue → ℕ → FieldValues → Type 0
IsPutIn OfPlan plan k v = IsInterval plan k v
IsPutIn (Between borders) plan k v = IsWithin borders.now k v.start v.end

-- they are put in none: Interval is the fault where rows have the plan's intervals, and Border between borders
abbrev pub IsOutside : Intervals → PlanValue → FieldValues → RowFault → Type 0
IsOutside OfPlan plan v Interval = (k : ℕ) → IsInterval plan k v → ⊥
IsOutside (Between borders) plan v Border = (k : ℕ) → IsWithin borders.now k v.start v.end → ⊥
IsOutside intervals plan v fault = ⊥

-- the fault is the first in the order of the faults that fits the record; want of memory fits each
abbrev pub IsRowFaultIn : Intervals → PlanValue → DataRecord → RowFault → Type 0
IsRowFaultIn intervals plan r OutOfMemory = Unit {0}
IsRowFaultIn intervals plan r Template = IsOfTemplate r → ⊥
IsRowFaultIn intervals plan r Fields = IsOfTemplate r × ((v : FieldValues) → Tell plan r.fields v → ⊥)
IsRowFaultIn intervals plan r Interval = IsOfTemplate r × ((v : FieldValues) × Tell plan r.fields v × IsOutside intervals plan v Interval)
IsRowFaultIn intervals plan r Border = IsOfTemplate r × ((v : FieldValues) × Tell plan r.fields v × IsOutside intervals plan v Border)
IsRowFaultIn intervals plan r Prefix =
    IsOfTemplate r × ((v : FieldValues) × Tell plan r.fields v × ((k : ℕ) × IsPutIn intervals plan k v) × (AreProjected plan.keys v.key → ⊥))
IsRowFaultIn intervals plan r Flows =
    IsOfTemplate r × ((v : FieldValues) × Tell plan r.fields v × ((k : ℕ) × IsPutIn intervals plan k v) × AreProjected plan.keys v.key × (v.flows ≡ 0))

-- where rows have the plan's intervals
abbrev pub IsRowFault : PlanValue → DataRecord → RowFault → Type 0
IsRowFault = IsRowFaultIn OfPlan

-- ---- the number and the name that reports give for a fault

abbrev pub number_of : RowFault → ℕ
number_of OutOfMemory = 1
number_of Template = 2
number_of Fields = 3
number_of Interval = 4
number_of Prefix = 5
number_of Flows = 6
number_of Border = 7

abbrev pub name_of : RowFault → List ℕ
name_of OutOfMemory = codes "OutOfMemory"
name_of Template = codes "Template"
name_of Fields = codes "Fields"
name_of Interval = codes "Interval"
name_of Prefix = codes "Prefix"
name_of Flows = codes "Flows"
name_of Border = codes "Border"
