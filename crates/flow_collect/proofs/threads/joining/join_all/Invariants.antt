use Rattle.std.proofs.Common.{◌≡◌, ◌+◌, ◌≤◌, List, ◌++◌, None}
use Rattle.std.specs.List.{AllZip}
use Rattle.std.specs.VecDeque.{deque_len, deque_capacity}
use Rattle.flow_collect.specs.Started.{KeepsPromise}
use Rattle.flow_collect.proofs.threads.joining.join_all.Given as goal

abbrev pub invariant-loop-handle : goal.invariant-loop-handle
invariant-loop-handle g l =
    (hs : List _)
    × (l.initial.handles.items ≡ hs ++ l.handles.items)
    × (deque_len l.all + deque_len l.handles ≤ deque_capacity l.all)
    × (l.lost ≡ None → AllZip (KeepsPromise g.P.Promise.kept_by) hs l.all.items)

abbrev pub decreases-loop-handle : goal.decreases-loop-handle
decreases-loop-handle g l = deque_len l.handles
