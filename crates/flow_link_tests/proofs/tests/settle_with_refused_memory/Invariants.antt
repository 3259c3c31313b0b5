use Rattle.std.proofs.Common.{◌≡◌}
use Rattle.flow_link_tests.proofs.tests.settle_with_refused_memory.Given as goal

abbrev pub invariant-loop-number : goal.invariant-loop-number
invariant-loop-number g l = l.sender.link ≡ l.initial.sender.link
