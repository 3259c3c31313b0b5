use Rattle.std.proofs.Common.{map, take}
use Rattle.toml.specs.View.{view}
use Rattle.flow_plan_fields.specs.FilteredPlans.{AreConditions}
use Rattle.flow_plan_fields.proofs.wheres.read_conditions.Given as goal

-- the first ones have these conditions
abbrev pub invariant-loop-index : goal.invariant-loop-index
invariant-loop-index l = AreConditions l.elements (map view (take l.index l.values)) l.conditions.items
