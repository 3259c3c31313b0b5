use Rattle.recording_order.proofs.InOrder.{released-next}
use Rattle.recording_order.proofs.laws.in_order_nothing_changes.Goals as goal

pub returns : goal.returns
returns c = λ course. released-next course.says course.seconds course.events
