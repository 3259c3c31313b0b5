use Rattle.std.proofs.Common.{◌≡◌, ◌++◌}
use Rattle.std.specs.VecDeque.{deque_len}
use Rattle.command_collect.specs.Exporters.{in_context, in_places}
use Rattle.command_collect.proofs.exporters.in_context.Given as goal

-- those that wait come after those that are there
abbrev pub invariant-loop-source : goal.invariant-loop-source
invariant-loop-source g l =
    in_context l.job l.initial.waiting.items l.initial.left ≡ l.all.items ++ in_places l.job l.waiting.items l.told l.left

abbrev pub decreases-loop-source : goal.decreases-loop-source
decreases-loop-source g l = deque_len l.waiting
