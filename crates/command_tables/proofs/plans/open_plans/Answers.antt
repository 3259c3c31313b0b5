use Rattle.std.proofs.Common.{sym}
use Rattle.command_tables.specs.Plans.{IsWorkOf}
use Rattle.command_tables.proofs.Each.{zip_all, zip_more}
use Rattle.command_tables.proofs.plans.open_plans.Goals as goal

pub loop-plan-preserved : goal.loop-plan-preserved
loop-plan-preserved c =
    zip_more c.args.read.now c.loop-plan.plan-index _ _ c.loop-plan-test.true (sym c.plan-item.is) c.loop-plan.plans.items c.push.new.self.items _ c.in-Ok.ensures.items
    (IsWorkOf c.args.arguments.now c.args.zone) c.loop-plan.invariant c.in_ok-work.ensures.ok

pub returns : goal.returns
returns c = zip_all (IsWorkOf c.args.arguments.now c.args.zone) c.args.read.now c.loop-plan.plans.items c.loop-plan.plan-index c.loop-plan-test.false c.loop-plan.invariant
