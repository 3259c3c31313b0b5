use Rattle.std.proofs.Common.{◌≡◌}
use Rattle.recording_order.proofs.Counting.{begun}
use Rattle.recording_order.proofs.order_counts.begin_counts.Given as goal

abbrev pub invariant-loop-index : goal.invariant-loop-index
invariant-loop-index l = l.numbers.entries ≡ begun l.index l.fn.numbers.entries
