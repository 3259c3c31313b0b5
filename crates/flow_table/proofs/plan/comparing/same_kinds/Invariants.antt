use Rattle.std.proofs.Common.{◌≡◌, length}
use Rattle.std.specs.Cmp.Lexicographic.{pointwise}
use Rattle.flow_table.specs.SamePlans.{same_kind}
use Rattle.flow_table.proofs.plan.comparing.same_kinds.Given as goal

abbrev pub invariant-loop-a : goal.invariant-loop-a
invariant-loop-a l = pointwise same_kind l.a l.b ≡ pointwise same_kind l.initial.a l.initial.b

abbrev pub decreases-loop-a : goal.decreases-loop-a
decreases-loop-a l = length l.a
