use Rattle.std.proofs.Common.{◌≡◌, ◌++◌, length}
use Rattle.command_collect.specs.Inputs.{domains_of}
use Rattle.command_collect.proofs.receipts.inputs.domains_of.Given as goal

abbrev pub invariant-loop-report : goal.invariant-loop-report
invariant-loop-report l = l.all.items ++ domains_of l.left l.others ≡ domains_of l.initial.left l.initial.others

abbrev pub decreases-loop-report : goal.decreases-loop-report
decreases-loop-report l = length l.left
