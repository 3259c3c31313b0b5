use Rattle.std.proofs.Common.{◌≡◌, ◌+◌, ◌≤◌, List, [], ◌++◌}
use Rattle.std.specs.Prelude.{All}
use Rattle.std.specs.List.{AllZip}
use Rattle.std.specs.VecDeque.{deque_len, deque_capacity}
use Rattle.flow_collect.specs.Started.{IsGivenTo, start_of}
use Rattle.flow_collect.specs.declared.session_thread.Start.{Start}
use Rattle.flow_collect.proofs.threads.sessions.start_sessions.Given as goal

abbrev pub invariant-loop-start : goal.invariant-loop-start
invariant-loop-start g l =
    (used : List (Start g.row.S.Denot))
    × (l.initial.starts.items ≡ used ++ l.starts.items)
    × All (λ start. start.sender.sent ≡ []) l.starts.items
    × (deque_len l.handles + deque_len l.starts ≤ deque_capacity l.handles)
    × AllZip (IsGivenTo start_of) used l.handles.items
    × (deque_len l.handles + deque_len l.starts ≤ deque_len l.initial.starts)

abbrev pub decreases-loop-start : goal.decreases-loop-start
decreases-loop-start g l = deque_len l.starts
