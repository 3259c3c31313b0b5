use Rattle.std.proofs.Common.{arith}
use Rattle.flow_table.proofs.Lacking.{all_noted}
use Rattle.flow_table.proofs.missing.missing_together.Goals as goal

pub returns : goal.returns
returns c =
    all_noted c.args.a.now c.args.b.now _ (omega arith) (omega arith) c.sums.ensures.long c.sums-2.ensures.long c.saturating_add.ensures c.saturating_add-2.ensures c.sums.ensures.sums c.sums-2.ensures.sums
