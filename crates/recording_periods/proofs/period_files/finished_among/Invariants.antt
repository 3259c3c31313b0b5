use Rattle.std.specs.VecDeque.{deque_len}
use Rattle.recording_periods.proofs.FoundFiles.{SoFar}
use Rattle.recording_periods.proofs.period_files.finished_among.Given as goal

abbrev pub invariant-loop-name : goal.invariant-loop-name
invariant-loop-name l = SoFar l.initial.waiting.items l.waiting.items l.files.items

abbrev pub decreases-loop-name : goal.decreases-loop-name
decreases-loop-name l = deque_len l.waiting
