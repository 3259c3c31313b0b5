use Rattle.flow_export.proofs.RowsInOrder.{one_passed}
use Rattle.flow_export.proofs.made_rows.MadeRows.pass.Goals as goal

pub returns-in-Ok : goal.returns-in-Ok
returns-in-Ok c = one_passed c.self.inside.table.now c.self.inside.index c.args.self.now c.self.view_is
