use Rattle.std.proofs.Common.{◌≡◌, ◌++◌, take}
use Rattle.flow_export.specs.SpecOctets.{counters_octets}
use Rattle.flow_export.proofs.ipfix_text.template.append_counter_specs.Given as goal

abbrev pub invariant-loop-counter : goal.invariant-loop-counter
invariant-loop-counter l = l.out.items ≡ l.fn.out.items ++ counters_octets (take l.counter-index l.counters)
