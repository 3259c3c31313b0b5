use Rattle.std.proofs.Common.{◌≡◌, ◌+◌}
use Rattle.std.specs.Prelude.{sum}
use Rattle.std.specs.BTreeMap.{values}
use Rattle.ipfix_datagrams.proofs.weighing.are_within.Given as goal

abbrev pub invariant-loop-weight : goal.invariant-loop-weight
invariant-loop-weight l = l.budget + sum l.weight-iterator ≡ sum (values l.weights) + l.left
