use Rattle.std.proofs.Common.{◌≡◌, take}
use Rattle.flow_table.specs.Reading.{counters_of}
use Rattle.flow_table.specs.Readings.{Notes}
use Rattle.flow_table.proofs.reading.read_counters.Given as goal

-- the counters of the first elements, and what the record lacks of these
abbrev pub invariant-loop-element : goal.invariant-loop-element
invariant-loop-element l = record {
  counters : l.counters.items ≡ counters_of (take l.element-index l.elements) l.data_record;
  missing : Notes l.initial.missing (take l.element-index l.elements) l.data_record l.missing;
}
