use Rattle.std.proofs.Common.{take, drop}
use Rattle.flow_export.specs.IpfixText.{number_field}
use Rattle.flow_merge.specs.InnerReading.{BeginEach, FitsNumber}
use Rattle.flow_merge.proofs.Beginnings.{Left}
use Rattle.flow_merge.proofs.field_reading.next_numbers.Given as goal

-- the numbers so far, and what is left for the other elements
abbrev pub invariant-loop-element : goal.invariant-loop-element
invariant-loop-element l = record {
  found : BeginEach number_field FitsNumber (take l.element-index l.elements) l.fn.fields l.numbers.items l.fields;
  left : Left number_field FitsNumber l.elements l.fn.fields (drop l.element-index l.elements) l.fields;
}
