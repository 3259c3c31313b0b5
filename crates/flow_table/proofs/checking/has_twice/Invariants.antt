use Rattle.std.proofs.Common.{◌≡◌, length}
use Rattle.flow_table.specs.Plans.{has_twice}
use Rattle.flow_table.proofs.checking.has_twice.Given as goal

abbrev pub invariant-loop-elements : goal.invariant-loop-elements
invariant-loop-elements l = has_twice l.initial.elements ≡ has_twice l.elements

abbrev pub decreases-loop-elements : goal.decreases-loop-elements
decreases-loop-elements l = length l.elements
