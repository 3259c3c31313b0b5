use Rattle.recording_order.proofs.Bounds.{run-bounded}
use Rattle.recording_order.proofs.laws.much_is_never_kept.Goals as goal

pub returns : goal.returns
returns c = λ course. run-bounded course.says course.seconds course.events
