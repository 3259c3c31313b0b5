use Rattle.std.proofs.Common.{◌≡◌, List, ◌++◌, map}
use Rattle.std.specs.VecDeque.{deque_len}
use Rattle.flow_collect.specs.Contexts.{alone}
use Rattle.flow_collect.proofs.session_context.in_no_context.Given as goal

-- those before the ones that wait are there, alone
abbrev pub invariant-loop-source : goal.invariant-loop-source
invariant-loop-source g l =
    (done : List g.row.S.Denot)
    × (l.initial.waiting.items ≡ done ++ l.waiting.items)
    × (l.all.items ≡ map alone done)

abbrev pub decreases-loop-source : goal.decreases-loop-source
decreases-loop-source g l = deque_len l.waiting
