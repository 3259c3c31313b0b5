use Rattle.std.proofs.Common.{◌≡◌, ◌++◌, length, take}
use Rattle.std.specs.List.{zip}
use Rattle.flow_export.specs.SpecOctets.{keys_octets}
use Rattle.flow_export.proofs.ipfix_text.template.append_key_specs.Given as goal

abbrev pub invariant-loop-key : goal.invariant-loop-key
invariant-loop-key l = l.out.items ≡ l.fn.out.items ++ keys_octets (zip (take (length l.yielded) l.keys) (take (length l.yielded) l.kinds))
