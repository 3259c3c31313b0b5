use Rattle.std.proofs.Common.{◌≡◌, ◌≤◌, ◌*◌, take}
use Rattle.std.specs.Prelude.{sum_by, ◌^◌}
use Rattle.flow_table.specs.AddedUp.{rows_in}
use Rattle.command_collect.proofs.receipts.table_part.total_of.Given as goal

abbrev pub invariant-loop-index : goal.invariant-loop-index
invariant-loop-index g l = record {
  total : l.total ≡ sum_by (g.N.RowNumber.number l.numbers) (take l.index (rows_in l.table));
  small : l.total ≤ l.index * 2 ^ 64;
}
