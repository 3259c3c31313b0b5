use Rattle.std.proofs.Common.{ℕ, ◌≤◌, List, take}
use Rattle.flow_rows.specs.Stacks.{stack_total}
use Rattle.flow_rows.proofs.shedding.bound_of.Given as goal

abbrev pub invariant-loop-i : goal.invariant-loop-i
invariant-loop-i g l = (q : List ℕ) (k : ℕ) → stack_total (take l.i l.runs) q k ≤ l.bound
