use Rattle.std.proofs.Common.{◌≡◌, [], length, map}
use Rattle.flow_plan_fields.specs.Keys.{key_value, keys_after}
use Rattle.flow_plan_fields.proofs.keys.keys_among.Given as goal

abbrev pub invariant-loop-left : goal.invariant-loop-left
invariant-loop-left l = keys_after l.elements l.maps (map key_value l.keys.items) (map (λ t. t.now) l.left)
    ≡ keys_after l.elements l.maps [] (map (λ t. t.now) l.initial.left)

abbrev pub decreases-loop-left : goal.decreases-loop-left
decreases-loop-left l = length l.left
