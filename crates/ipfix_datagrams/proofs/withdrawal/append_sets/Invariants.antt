use Rattle.std.proofs.Common.{◌≡◌, ◌++◌, take}
use Rattle.ipfix_datagrams.specs.Withdrawals.{withdrawal_sets}
use Rattle.ipfix_datagrams.proofs.withdrawal.append_sets.Given as goal

abbrev pub invariant-loop-template : goal.invariant-loop-template
invariant-loop-template l = l.out.items ≡ l.fn.out.items ++ withdrawal_sets (take l.template-index l.templates)
