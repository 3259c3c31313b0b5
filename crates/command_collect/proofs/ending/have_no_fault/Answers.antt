use Rattle.std.proofs.Common.{refl}
use Rattle.command_collect.proofs.WentWell.{none_more, none_of_all}
use Rattle.command_collect.proofs.ending.have_no_fault.Goals as goal

pub loop-full-preserved : goal.loop-full-preserved
loop-full-preserved c = none_more c.args.reports.now c.loop-full.full-index c.full-item.result c.loop-full-test.true c.loop-full.invariant c.full-item.is c.if-is_some.ensures

pub returns : goal.returns
returns c = (λ e. none_of_all c.args.reports.now c.loop-full.full-index c.loop-full-test.false c.loop-full.invariant, λ all. refl)
