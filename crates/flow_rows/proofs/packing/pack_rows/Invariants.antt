use Rattle.std.proofs.Common.{◌≡◌, ℕ, ◌<◌, get_or, length}
use Rattle.flow_rows.specs.Packed.{IsPacked}
use Rattle.flow_rows.proofs.packing.pack_rows.Given as goal

abbrev pub invariant-loop-i : goal.invariant-loop-i
invariant-loop-i g l = record {
  long : length l.order.items ≡ l.i;
  each : (k : ℕ) → k < l.i → IsPacked l.least l.most l.buffer k (get_or l.order.items k 0);
}
