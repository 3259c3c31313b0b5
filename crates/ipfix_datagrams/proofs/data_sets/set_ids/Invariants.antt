use Rattle.std.proofs.Common.{◌≡◌, ◌++◌, length}
use Rattle.ipfix_datagrams.proofs.DataSets.{ids_of}
use Rattle.ipfix_datagrams.proofs.data_sets.set_ids.Given as goal

abbrev pub invariant-loop-rest : goal.invariant-loop-rest
invariant-loop-rest l = ids_of l.octets ≡ l.ids.items ++ ids_of l.rest

abbrev pub decreases-loop-rest : goal.decreases-loop-rest
decreases-loop-rest l = length l.rest
