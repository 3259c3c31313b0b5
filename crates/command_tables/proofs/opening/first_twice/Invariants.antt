use Rattle.std.proofs.Common.{◌≡◌, length, map}
use Rattle.command_tables.specs.Opening.{name_twice}
use Rattle.command_tables.specs.declared.opening.NamedPlan.{NamedPlan}
use Rattle.command_tables.proofs.opening.first_twice.Given as goal

-- no name of those before stands again
abbrev pub invariant-loop-plans : goal.invariant-loop-plans
invariant-loop-plans l = name_twice (map (λ (p : NamedPlan). p.name.now) l.plans) ≡ name_twice (map (λ (p : NamedPlan). p.name.now) l.initial.plans)

abbrev pub decreases-loop-plans : goal.decreases-loop-plans
decreases-loop-plans l = length l.plans
