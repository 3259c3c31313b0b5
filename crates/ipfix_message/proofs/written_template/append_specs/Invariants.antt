use Rattle.std.proofs.Common.{◌≡◌, ◌++◌, take}
use Rattle.std.specs.List.{flat_map}
use Rattle.ipfix_wire.specs.FieldSpecifier.{spec_octets}
use Rattle.ipfix_message.proofs.written_template.append_specs.Given as goal

abbrev pub invariant-loop-spec : goal.invariant-loop-spec
invariant-loop-spec l = l.out.items ≡ l.fn.out.items ++ flat_map spec_octets (take l.spec-index l.specs)
