use Rattle.std.proofs.Common.{◌≡◌, ◌&&◌, ◌≤◌, [], length}
use Rattle.ipfix_datagrams.specs.Datagrams.{are_sets_of_withdrawals}
use Rattle.ipfix_datagrams.proofs.FirstAndLast.{Taking, events_in_sets}
use Rattle.ipfix_datagrams.proofs.definitions.definitions_of.Given as goal

abbrev pub invariant-loop-rest : goal.invariant-loop-rest
invariant-loop-rest l = record {
  takes : Taking l.definitions [] (events_in_sets l.octets) (events_in_sets l.rest);
  only : are_sets_of_withdrawals l.octets ≡ (are_sets_of_withdrawals l.rest && l.definitions.withdraws_only);
  room : length l.rest ≤ length l.octets;
}

abbrev pub decreases-loop-rest : goal.decreases-loop-rest
decreases-loop-rest l = length l.rest
