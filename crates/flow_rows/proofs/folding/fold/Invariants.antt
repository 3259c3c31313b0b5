use Rattle.std.proofs.Common.{◌≡◌, ℕ, ◌+◌, ◌≤◌, ◌++◌, drop, get_or}
use Rattle.flow_rows.specs.Rows.{total_at}
use Rattle.flow_rows.specs.Folded.{folded, folded_onto}
use Rattle.flow_rows.proofs.folding.fold.Given as goal

abbrev pub invariant-loop-i : goal.invariant-loop-i
invariant-loop-i g l = record {
  rest : l.out.items ++ folded_onto l.last (drop l.i l.buffer) ≡ folded l.buffer;
  small : (k : ℕ) → get_or l.last.numbers k 0 + total_at (drop l.i l.buffer) l.last.key k ≤ total_at l.buffer l.last.key k;
}
