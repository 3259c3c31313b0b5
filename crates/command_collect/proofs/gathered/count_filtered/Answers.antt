use Rattle.command_collect.proofs.LeftOut.{filtered_all, filtered_more}
use Rattle.command_collect.proofs.gathered.count_filtered.Goals as goal

pub loop-told-preserved : goal.loop-told-preserved
loop-told-preserved c = filtered_more c.args.reports.now c.loop-told.told-index c.told-item.result c.loop-told.filtered _ c.loop-told-test.true c.loop-told.invariant c.told-item.is c.saturating_add-filtered.ensures

pub returns : goal.returns
returns c = filtered_all c.args.reports.now c.loop-told.told-index c.loop-told.filtered c.loop-told-test.false c.loop-told.invariant
