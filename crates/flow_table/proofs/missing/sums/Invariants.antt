use Rattle.std.proofs.Common.{◌≡◌, ℕ, ◌+◌, ◌-◌, ◌^◌, ◌<◌, min, length, get_or}
use Rattle.flow_table.proofs.missing.sums.Given as goal

-- the sums of the first places, and the numbers of the others as they were
abbrev pub invariant-loop-i : goal.invariant-loop-i
invariant-loop-i g l = record {
  long : length l.sums ≡ length l.a;
  done : (k : ℕ) → k < l.i → get_or l.sums k 0 ≡ min (get_or l.a k 0 + get_or l.b k 0) (2 ^ 64 - 1);
  rest : (k : ℕ) → l.i < k + 1 → get_or l.sums k 0 ≡ get_or l.a k 0;
}
