use Rattle.std.proofs.Common.{◌≡◌}
use Rattle.std.specs.Prelude.{nat_lt}
use Rattle.std.specs.List.{list_any}
use Rattle.ipfix_datagrams.specs.RecordsCame.{has_records}
use Rattle.ipfix_datagrams.proofs.sequence_advances.SequenceAdvances.has_records.Given as goal

abbrev pub invariant-loop-reach : goal.invariant-loop-reach
invariant-loop-reach l = record {
  can : (goal.iterator-loop-reach).can_next l.reach-iterator;
  finite : (goal.iterator-loop-reach).is_finite l.reach-iterator;
  same : list_any (λ r. nat_lt 0 r.came) l.reach-iterator ≡ has_records l.self.reaches;
}
