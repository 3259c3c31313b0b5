use Rattle.std.proofs.Common.{length, take, drop}
use Rattle.std.specs.List.{zip}
use Rattle.flow_export.specs.IpfixText.{key_field}
use Rattle.flow_merge.specs.InnerReading.{BeginEach, FitsKey}
use Rattle.flow_merge.proofs.Beginnings.{Left}
use Rattle.flow_merge.proofs.field_reading.next_cells.Given as goal

-- the cells so far, and what is left for the other keys
abbrev pub invariant-loop-key : goal.invariant-loop-key
invariant-loop-key l = record {
  found : BeginEach key_field FitsKey (zip (take (length l.yielded) l.keys) (take (length l.yielded) l.kinds)) l.fn.fields l.cells.items l.fields;
  left : Left key_field FitsKey (zip l.keys l.kinds) l.fn.fields (drop (length l.yielded) (zip l.keys l.kinds)) l.fields;
}
