use Rattle.std.proofs.Common.{◌≡◌, length, map}
use Rattle.flow_plan_fields.specs.Keys.{has_text, key_value}
use Rattle.flow_plan_fields.proofs.keys.has_text.Given as goal

abbrev pub invariant-loop-keys : goal.invariant-loop-keys
invariant-loop-keys l = has_text l.text (map key_value l.keys) ≡ has_text l.text (map key_value l.initial.keys)

abbrev pub decreases-loop-keys : goal.decreases-loop-keys
decreases-loop-keys l = length l.keys
