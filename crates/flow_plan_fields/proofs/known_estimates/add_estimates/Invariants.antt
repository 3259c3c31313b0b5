use Rattle.std.proofs.Common.{◌≡◌, length}
use Rattle.flow_plan_fields.specs.Scaled.{with_estimates}
use Rattle.flow_plan_fields.proofs.known_estimates.add_estimates.Given as goal

abbrev pub invariant-loop-keys : goal.invariant-loop-keys
invariant-loop-keys l = with_estimates l.elements l.keys ≡ with_estimates l.initial.elements l.initial.keys

abbrev pub decreases-loop-keys : goal.decreases-loop-keys
decreases-loop-keys l = length l.keys
