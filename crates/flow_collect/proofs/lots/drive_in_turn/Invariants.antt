use Rattle.std.proofs.Common.{◌≡◌, List, ◌++◌}
use Rattle.std.specs.VecDeque.{deque_len}
use Rattle.flow_collect.specs.Serials.{RanAs}
use Rattle.flow_collect.specs.declared.session_context.InContext.{InContext}
use Rattle.flow_collect.proofs.lots.drive_in_turn.Given as goal

-- those before the ones that wait have run
abbrev pub invariant-loop-next : goal.invariant-loop-next
invariant-loop-next g l =
    (done : List (InContext g.row.S.Denot))
    × (l.initial.waiting.items ≡ done ++ l.waiting.items)
    × RanAs g.S.Source.seen done l.initial.lot.partial l.lot.sources.items l.lot.sessions.items l.lot.partial

abbrev pub decreases-loop-next : goal.decreases-loop-next
decreases-loop-next g l = deque_len l.waiting
