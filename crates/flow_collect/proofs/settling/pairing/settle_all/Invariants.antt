use Rattle.std.proofs.Common.{◌≡◌, List, ◌++◌, length, map}
use Rattle.std.specs.Prelude.{All}
use Rattle.flow_collect.specs.Dealt.{IsPaired}
use Rattle.flow_collect.specs.Finished.{ended_link, SettledAll}
use Rattle.flow_collect.specs.declared.session_thread.EndedSession.{EndedSession}
use Rattle.flow_collect.specs.declared.worker.LinkEnd.{LinkEnd}
use Rattle.flow_collect.proofs.settling.pairing.settle_all.Given as goal

abbrev pub invariant-loop-number : goal.invariant-loop-number
invariant-loop-number g l =
    (ts : List (EndedSession g.row.S.Denot)) × (ls : List LinkEnd)
    × (l.initial.sessions.items ≡ ts ++ l.sessions.items)
    × (l.initial.link_ends.items ≡ ls ++ l.link_ends.items)
    × (l.number ≡ length ts)
    × All (IsPaired (map ended_link l.initial.sessions.items)) l.link_ends.items
    × SettledAll ts ls l.parts
