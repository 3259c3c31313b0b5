use Rattle.std.proofs.Common.{◌≡◌, suc, get_or}
use Rattle.flow_table.specs.Words.{first_of}
use Rattle.flow_table.proofs.run.write_sums.Given as goal

abbrev pub invariant-loop-i : goal.invariant-loop-i
invariant-loop-i l = l.sums.items ≡ first_of l.i (λ j. get_or l.numbers (suc j) 0)
