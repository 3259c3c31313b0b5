use Rattle.std.proofs.Common.{◌≡◌, ◌++◌, length}
use Rattle.std.specs.List.{flat_map}
use Rattle.flow_plan_fields.specs.Scaled.{estimate_of}
use Rattle.flow_plan_fields.proofs.estimates.estimates_of.Given as goal

abbrev pub invariant-loop-counters : goal.invariant-loop-counters
invariant-loop-counters l = l.keys.items ++ flat_map estimate_of l.counters ≡ flat_map estimate_of l.initial.counters

abbrev pub decreases-loop-counters : goal.decreases-loop-counters
decreases-loop-counters l = length l.counters
