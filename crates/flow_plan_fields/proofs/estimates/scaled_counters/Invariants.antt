use Rattle.std.proofs.Common.{◌≡◌, ◌++◌, length, map}
use Rattle.flow_plan_fields.specs.Scaled.{scaled}
use Rattle.flow_plan_fields.proofs.estimates.scaled_counters.Given as goal

abbrev pub invariant-loop-counters : goal.invariant-loop-counters
invariant-loop-counters l = l.all.items ++ map scaled l.counters ≡ map scaled l.initial.counters

abbrev pub decreases-loop-counters : goal.decreases-loop-counters
decreases-loop-counters l = length l.counters
