use Rattle.std.proofs.Common.{◌≡◌, take, Some}
use Rattle.toml.specs.View.{items_view}
use Rattle.flow_plan.specs.PlanTexts.{texts_in}
use Rattle.flow_plan.specs.Shown.{texts_of}
use Rattle.flow_plan.proofs.fields.texts_in.Given as goal

-- the first values are texts
abbrev pub invariant-loop-value : goal.invariant-loop-value
invariant-loop-value l = texts_in (items_view (take l.value-index l.value-items)) ≡ Some (texts_of l.texts)
