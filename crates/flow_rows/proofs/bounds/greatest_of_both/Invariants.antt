use Rattle.std.proofs.Common.{ℕ, ◌+◌, ◌<◌, ◌≤◌, get_or}
use Rattle.flow_rows.specs.Rows.{Row, total_at}
use Rattle.flow_rows.proofs.bounds.greatest_of_both.Given as goal

abbrev pub invariant-loop-i : goal.invariant-loop-i
invariant-loop-i g l = record {
  most : l.bound ≤ l.most;
  below : (k : ℕ) (d : Row) → k < l.i → (j : ℕ) → total_at l.b (get_or l.a k d).key j + get_or (get_or l.a k d).numbers j 0 ≤ l.most;
}
