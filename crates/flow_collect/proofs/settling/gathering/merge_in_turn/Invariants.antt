use Rattle.std.proofs.Common.{◌≡◌, List, ◌++◌}
use Rattle.std.specs.Prelude.{All}
use Rattle.std.specs.VecDeque.{deque_len}
use Rattle.flow_table.specs.Partials.{plan_of}
use Rattle.flow_collect.specs.Finished.{HasTaken, link_ends_of}
use Rattle.flow_collect.specs.LinkEnds.{StandsForLinkEnds}
use Rattle.flow_collect.specs.declared.worker.WorkerShare.{WorkerShare}
use Rattle.flow_collect.proofs.settling.gathering.merge_in_turn.Given as goal

abbrev pub invariant-loop-other : goal.invariant-loop-other
invariant-loop-other l =
    (ws : List WorkerShare)
    × (l.fn.worked.items ≡ ws ++ l.worked.items)
    × (l.all.link_ends.items ≡ link_ends_of ws)
    × All (HasTaken (plan_of l.all.partial)) l.worked.items
    × (plan_of l.all.partial ≡ plan_of l.initial.all.partial)
    × StandsForLinkEnds l.all.partial l.all.link_ends.items

abbrev pub decreases-loop-other : goal.decreases-loop-other
decreases-loop-other l = deque_len l.worked
