use Rattle.std.proofs.Common.{◌≡◌, List, ◌++◌}
use Rattle.std.specs.VecDeque.{deque_len}
use Rattle.flow_collect.specs.InFull.{fulls_in}
use Rattle.flow_collect.specs.declared.collected.FilteredReport.{FilteredReport}
use Rattle.command_collect.specs.Gathered.{samplings_in, times_of_each}
use Rattle.command_collect.proofs.gathered.part_reports.Given as goal

-- those before the ones that wait are apart
abbrev pub invariant-loop-told : goal.invariant-loop-told
invariant-loop-told l =
    (done : List FilteredReport)
    × (l.initial.waiting.items ≡ done ++ l.waiting.items)
    × (l.parted.fulls.items ≡ fulls_in done)
    × (l.parted.sampling.items ≡ samplings_in done)
    × (l.parted.times.items ≡ times_of_each done)

abbrev pub decreases-loop-told : goal.decreases-loop-told
decreases-loop-told l = deque_len l.waiting
