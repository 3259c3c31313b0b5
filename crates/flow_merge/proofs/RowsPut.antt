-- Rows that are put in an interval, and times that are within none.
use Rattle.std.proofs.Common.{ℕ, ◌<◌, ap₂, ◌∙◌, arith}
use Rattle.ipfix_message.specs.declared.record.DataRecord.{DataRecord}
use Rattle.flow_table.specs.Plans.{PlanValue}
use Rattle.flow_table.specs.SameTables.{RowValue, row_value}
use Rattle.flow_export.specs.IpfixText.{fields_of}
use Rattle.flow_export.specs.declared.intervals.Intervals.{Intervals}
use Rattle.flow_export.specs.declared.intervals.Intervals.TheVariants.{OfPlan, Between}
use Rattle.flow_merge.specs.RowFaults.{FieldValues, IsOutside, IsPutIn, IsRowFaultIn, Tell}
use Rattle.flow_merge.specs.RowRecords.{AreProjected, IsInTime, IsOfTemplate, IsRowOf, IsRowRecordIn}
use Rattle.flow_merge.specs.declared.row_fault.RowFault.{RowFault}
use Rattle.flow_merge.specs.declared.row_fault.RowFault.TheVariants.{OutOfMemory, Template, Fields, Interval, Prefix, Flows, Border}

abbrev row_of : ℕ → FieldValues → RowValue
row_of k v = row_value k v.key v.sums v.flows

of_plan : (plan : PlanValue) (fields : _) (v : FieldValues) (k : ℕ) → Tell plan fields v → IsInTime plan k → AreProjected plan.keys v.key → 0 < v.flows → IsRowOf plan (row_of k v)
of_plan plan fields v k told in_time projected some =
    record {
      interval = in_time.begins;
      end = omega (arith, in_time.begins, in_time.short);
      fits = record { key = told.key; sums = told.sums };
      projected = projected;
      small = told.small;
      some = some;
      few = told.few;
    }

pub row_put : (intervals : Intervals) (plan : PlanValue) (r : DataRecord) (v : FieldValues) (k : ℕ) → IsOfTemplate r → Tell plan r.fields v → IsPutIn intervals plan k v → IsInTime plan k → AreProjected plan.keys v.key → 0 < v.flows
    → IsRowRecordIn intervals plan r (row_of k v)
row_put OfPlan plan r v k is told put in_time projected some =
    record {
      of_template = is;
      fields = told.told ∙ ap₂ (λ (start end : ℕ). fields_of plan start end v.key v.sums v.flows) put.start put.end;
      of_plan = of_plan plan r.fields v k told in_time projected some;
    }
row_put (Between borders) plan r v k is told put in_time projected some =
    record { of_template = is; fields = (v.start, v.end, put, told.told); of_plan = of_plan plan r.fields v k told in_time projected some }

-- the fault of values that are put in none
pub outside : (intervals : Intervals) (plan : PlanValue) (r : DataRecord) (v : FieldValues) (fault : RowFault) → IsOfTemplate r → Tell plan r.fields v → IsOutside intervals plan v fault → IsRowFaultIn intervals plan r fault
outside OfPlan plan r v Interval is told none = (is, (v, told, none))
outside OfPlan plan r v OutOfMemory is told none = tt
outside OfPlan plan r v Template is told none = absurd none
outside OfPlan plan r v Fields is told none = absurd none
outside OfPlan plan r v Prefix is told none = absurd none
outside OfPlan plan r v Flows is told none = absurd none
outside OfPlan plan r v Border is told none = absurd none
outside (Between borders) plan r v Border is told none = (is, (v, told, none))
outside (Between borders) plan r v OutOfMemory is told none = tt
outside (Between borders) plan r v Template is told none = absurd none
outside (Between borders) plan r v Fields is told none = absurd none
outside (Between borders) plan r v Prefix is told none = absurd none
outside (Between borders) plan r v Flows is told none = absurd none
outside (Between borders) plan r v Interval is told none = absurd none
