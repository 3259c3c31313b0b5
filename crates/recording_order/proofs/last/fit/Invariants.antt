use Rattle.std.proofs.Common.{◌≡◌, length}
use Rattle.recording_order.specs.Windows.{fitting}
use Rattle.recording_order.proofs.last.fit.Given as goal

abbrev pub invariant-loop-last : goal.invariant-loop-last
invariant-loop-last l = fitting l.room l.last.items ≡ fitting l.room l.fn.last.items

abbrev pub decreases-loop-last : goal.decreases-loop-last
decreases-loop-last l = length l.last.items
