use Rattle.std.proofs.Common.{◌≡◌, ℕ, ◌+◌, ◌≤◌, ◌++◌, drop, get_or}
use Rattle.flow_rows.specs.Rows.{total_at}
use Rattle.flow_rows.specs.Folded.{folded, folded_onto}
use Rattle.flow_rows.specs.Packed.{in_order}
use Rattle.flow_rows.proofs.folding.fold_in_order.Given as goal

abbrev pub invariant-loop-i : goal.invariant-loop-i
invariant-loop-i g l = record {
  rest : l.out.items ++ folded_onto l.last (drop l.i (in_order l.buffer l.order)) ≡ folded (in_order l.buffer l.order);
  small : (k : ℕ) → get_or l.last.numbers k 0 + total_at (drop l.i (in_order l.buffer l.order)) l.last.key k ≤ total_at (in_order l.buffer l.order) l.last.key k;
}
