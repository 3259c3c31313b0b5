use Rattle.std.proofs.Common.{◌≡◌, length, map}
use Rattle.std.specs.Prelude.{bytes_eq}
use Rattle.std.specs.List.{list_any}
use Rattle.command_tables.specs.declared.opening.NamedPlan.{NamedPlan}
use Rattle.command_tables.proofs.opening.is_among.Given as goal

-- those before have other names
abbrev pub invariant-loop-plans : goal.invariant-loop-plans
invariant-loop-plans l =
    list_any (bytes_eq l.name) (map (λ (p : NamedPlan). p.name.now) l.plans) ≡ list_any (bytes_eq l.name) (map (λ (p : NamedPlan). p.name.now) l.initial.plans)

abbrev pub decreases-loop-plans : goal.decreases-loop-plans
decreases-loop-plans l = length l.plans
