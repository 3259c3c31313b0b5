use Rattle.std.proofs.Common.{◌≤◌}
use Rattle.flow_rows.proofs.packing.count_keys.Given as goal

abbrev pub invariant-loop-i : goal.invariant-loop-i
invariant-loop-i l = l.count ≤ l.i
