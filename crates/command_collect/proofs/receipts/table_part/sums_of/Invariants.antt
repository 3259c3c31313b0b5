use Rattle.std.proofs.Common.{◌≡◌, ◌+◌, ◌++◌, length, map}
use Rattle.flow_table.specs.AddedUp.{rows_in}
use Rattle.table_receipts.specs.Values.{sum_value}
use Rattle.command_collect.specs.Tables.{sums_from}
use Rattle.command_collect.proofs.receipts.table_part.sums_of.Given as goal

abbrev pub invariant-loop-counter : goal.invariant-loop-counter
invariant-loop-counter l = record {
  sums : map sum_value l.all.items ++ sums_from l.elements (rows_in l.table) l.place l.left ≡ sums_from l.elements (rows_in l.table) 0 l.initial.left;
  room : l.place + length l.left ≡ length l.initial.left;
}

abbrev pub decreases-loop-counter : goal.decreases-loop-counter
decreases-loop-counter l = length l.left
