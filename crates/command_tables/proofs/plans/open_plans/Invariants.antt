use Rattle.std.proofs.Common.{take}
use Rattle.std.specs.List.{AllZip}
use Rattle.command_tables.specs.Plans.{IsWorkOf}
use Rattle.command_tables.proofs.plans.open_plans.Given as goal

-- the first are worked on
abbrev pub invariant-loop-plan : goal.invariant-loop-plan
invariant-loop-plan l = AllZip (IsWorkOf l.arguments l.zone) (take l.plan-index l.read) l.plans.items
