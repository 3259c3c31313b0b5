use Rattle.std.proofs.Common.{arith, rules}
use Rattle.flow_table.proofs.FlatTables.{row_step, rows_done}
use Rattle.flow_table.proofs.flat_table.FlatTable.all_rows.Goals as goal

pub loop-index-preserved : goal.loop-index-preserved
loop-index-preserved c = row_step c.args.self.now c.loop-index.index c.loop-index.rows.items _ c.row_at.new.row (search rules) c.loop-index.invariant c.in_ok-row_at.ensures.row (search rules)

pub returns : goal.returns
returns c = rows_done c.args.self.now c.loop-index.index c.loop-index.rows.items (omega arith) c.loop-index.invariant
