use Rattle.std.proofs.Common.{rules}
use Rattle.flow_table.proofs.RowsWritten.{sums_step}
use Rattle.flow_table.proofs.run.write_sums.Goals as goal

pub loop-i-preserved : goal.loop-i-preserved
loop-i-preserved c = sums_step c.args.numbers.now c.loop-i.i c.loop-i.sums.items c.push.new.self.items c.loop-i.invariant (search rules)
