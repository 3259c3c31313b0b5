use Rattle.std.proofs.Common.{arith}
use Rattle.flow_export.proofs.RowsInOrder.{made_at}
use Rattle.flow_export.proofs.made_rows.make_row.Goals as goal

pub returns-in_ok-row_at : goal.returns-in_ok-row_at
returns-in_ok-row_at c = made_at c.args.table.now c.args.index c.row_at.new.row (omega arith) c.in_ok-row_at.ensures.row
