use Rattle.std.proofs.Common.{◌≡◌, length, map}
use Rattle.flow_plan_fields.specs.Keys.{key_value}
use Rattle.flow_plan_fields.specs.Known.{with_keys}
use Rattle.flow_plan_fields.proofs.known.add_map_keys.Given as goal

abbrev pub invariant-loop-keys : goal.invariant-loop-keys
invariant-loop-keys l = with_keys l.elements (map key_value l.keys) ≡ with_keys l.initial.elements (map key_value l.initial.keys)

abbrev pub decreases-loop-keys : goal.decreases-loop-keys
decreases-loop-keys l = length l.keys
