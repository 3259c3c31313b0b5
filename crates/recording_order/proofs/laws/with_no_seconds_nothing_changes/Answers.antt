use Rattle.recording_order.proofs.InOrder.{released-none}
use Rattle.recording_order.proofs.laws.with_no_seconds_nothing_changes.Goals as goal

pub returns : goal.returns
returns c = released-none
