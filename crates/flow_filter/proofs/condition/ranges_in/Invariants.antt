use Rattle.std.proofs.Common.{take}
use Rattle.flow_filter.specs.Faults.{texts_of, AreTexts}
use Rattle.flow_filter.proofs.condition.ranges_in.Given as goal

abbrev pub invariant-loop-place : goal.invariant-loop-place
invariant-loop-place l = AreTexts l.kind (take l.place (texts_of l.texts)) l.ranges.items
