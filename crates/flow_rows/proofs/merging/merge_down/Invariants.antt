use Rattle.std.proofs.Common.{◌+◌, length, take}
use Rattle.flow_rows.specs.Rows.{total_at}
use Rattle.flow_rows.proofs.Downwards.{Merging}
use Rattle.flow_rows.proofs.merging.merge_down.Given as goal

abbrev pub invariant-loop-i : goal.invariant-loop-i
invariant-loop-i g l = Merging l.rows l.newer (λ q k. total_at (take l.initial.older l.initial.rows) q k + total_at l.newer q k) (length l.initial.rows) l.i l.j l.place

abbrev pub decreases-loop-i : goal.decreases-loop-i
decreases-loop-i g l = l.i + l.j
