use Rattle.std.proofs.Common.{refl}
use Rattle.command_tables.specs.declared.plans.ReadPlan.{ReadPlan}
use Rattle.command_tables.proofs.Each.{map_all, map_more}
use Rattle.command_tables.proofs.plans.read_plans.Goals as goal

pub loop-plan-preserved : goal.loop-plan-preserved
loop-plan-preserved c =
    map_more c.args.named.now c.loop-plan.plan-index _ _ c.loop-plan-test.true refl c.loop-plan.plans.items c.push.new.self.items _ c.in-Ok.ensures.items
    (λ (p : ReadPlan). p.named) c.loop-plan.invariant refl

pub returns : goal.returns
returns c = map_all (λ (p : ReadPlan). p.named) c.args.named.now c.loop-plan.plans.items c.loop-plan.plan-index c.loop-plan-test.false c.loop-plan.invariant
