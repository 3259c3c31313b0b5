use Rattle.std.proofs.Common.{◌≡◌, ◌+◌, ◌≤◌}
use Rattle.std.specs.Prelude.{sum}
use Rattle.std.specs.BTreeMap.{values}
use Rattle.ipfix_datagrams.proofs.weighing.weigh.Given as goal

abbrev pub invariant-loop-count : goal.invariant-loop-count
invariant-loop-count l = record {
  left : l.budget + sum l.count-iterator ≡ (16 + sum (values l.counts)) + l.left;
  few : l.left ≤ l.budget;
}
