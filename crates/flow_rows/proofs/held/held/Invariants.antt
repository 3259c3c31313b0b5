use Rattle.std.proofs.Common.{◌≡◌, ℕ, get_or, take}
use Rattle.flow_rows.specs.Stacks.{stack_total}
use Rattle.flow_rows.proofs.held.held.Given as goal

abbrev pub invariant-loop-i : goal.invariant-loop-i
invariant-loop-i g l = (k : ℕ) → get_or l.sums.numbers k 0 ≡ stack_total (take l.i l.runs) l.wanted.key k
