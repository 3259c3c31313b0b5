use Rattle.std.proofs.Common.{◌≡◌, map, take}
use Rattle.command_tables.specs.declared.plans.ReadPlan.{ReadPlan}
use Rattle.command_tables.proofs.plans.read_plans.Given as goal

-- the first were read
abbrev pub invariant-loop-plan : goal.invariant-loop-plan
invariant-loop-plan l = map (λ (p : ReadPlan). p.named) l.plans.items ≡ take l.plan-index l.named
