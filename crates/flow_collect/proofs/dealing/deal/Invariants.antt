use Rattle.std.proofs.Common.{◌≡◌, List, ◌++◌, length}
use Rattle.std.specs.VecDeque.{deque_len}
use Rattle.flow_collect.specs.Dealt.{IsDealt}
use Rattle.flow_collect.specs.declared.session_context.InContext.{InContext}
use Rattle.flow_collect.proofs.dealing.deal.Given as goal

abbrev pub invariant-loop-source : goal.invariant-loop-source
invariant-loop-source g l =
    (used : List (InContext g.row.S.Denot)) × (l.initial.sources.items ≡ used ++ l.sources.items)
    × IsDealt l.plan l.pool used l.starts.items l.shares.items
    × (length l.shares.items ≡ l.pool.workers)

abbrev pub decreases-loop-source : goal.decreases-loop-source
decreases-loop-source g l = deque_len l.sources
