use Rattle.std.specs.VecDeque.{deque_len}
use Rattle.laws_merge.proofs.MergesOn.{MergesOn}
use Rattle.laws_merge.proofs.merges.merge.Given as goal

abbrev pub invariant-loop-source : goal.invariant-loop-source
invariant-loop-source g l = MergesOn g.S.Source.seen l.plan l.limit l.initial.waiting.items l.waiting.items l.merging

abbrev pub decreases-loop-source : goal.decreases-loop-source
decreases-loop-source g l = deque_len l.waiting
