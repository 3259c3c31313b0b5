use Rattle.std.proofs.Common.{◌≡◌, length}
use Rattle.recording_order.specs.DataSets.{have_data}
use Rattle.recording_order.proofs.data_sets.have_data.Given as goal

abbrev pub invariant-loop-rest : goal.invariant-loop-rest
invariant-loop-rest l = have_data l.rest ≡ have_data l.sets

abbrev pub decreases-loop-rest : goal.decreases-loop-rest
decreases-loop-rest l = length l.rest
