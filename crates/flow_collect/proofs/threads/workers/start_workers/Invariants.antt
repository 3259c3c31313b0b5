use Rattle.std.proofs.Common.{◌≡◌, ◌+◌, ◌≤◌, List, ◌++◌}
use Rattle.std.specs.Prelude.{All}
use Rattle.std.specs.List.{AllZip}
use Rattle.std.specs.VecDeque.{deque_len, deque_capacity}
use Rattle.flow_collect.specs.LinkEnds.{IsUnused}
use Rattle.flow_collect.specs.Started.{IsGivenTo, share_of}
use Rattle.flow_collect.specs.declared.worker.WorkerShare.{WorkerShare}
use Rattle.flow_collect.proofs.threads.workers.start_workers.Given as goal

abbrev pub invariant-loop-share : goal.invariant-loop-share
invariant-loop-share g l =
    (used : List WorkerShare)
    × (l.initial.shares.items ≡ used ++ l.shares.items)
    × All IsUnused l.shares.items
    × (deque_len l.handles + deque_len l.shares ≤ deque_capacity l.handles)
    × AllZip (IsGivenTo share_of) used l.handles.items
    × (deque_len l.handles + deque_len l.shares ≤ deque_len l.initial.shares)

abbrev pub decreases-loop-share : goal.decreases-loop-share
decreases-loop-share g l = deque_len l.shares
