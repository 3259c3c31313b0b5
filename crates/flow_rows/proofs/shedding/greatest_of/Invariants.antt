use Rattle.std.proofs.Common.{ℕ, ◌<◌, ◌≤◌, get_or}
use Rattle.flow_rows.specs.Rows.{Row}
use Rattle.flow_rows.proofs.shedding.greatest_of.Given as goal

abbrev pub invariant-loop-i : goal.invariant-loop-i
invariant-loop-i g l = (k : ℕ) (d : Row) → k < l.i → (j : ℕ) → get_or (get_or l.run k d).numbers j 0 ≤ l.most
