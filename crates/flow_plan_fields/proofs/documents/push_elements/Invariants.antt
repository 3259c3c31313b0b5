use Rattle.std.proofs.Common.{◌≡◌, ◌++◌, length, map}
use Rattle.toml.specs.View.{view}
use Rattle.flow_plan.specs.Shown.{texts_of}
use Rattle.flow_plan_fields.specs.Keys.{named_in}
use Rattle.flow_plan_fields.proofs.documents.push_elements.Given as goal

-- what is there, and what the conditions that are left give
abbrev pub invariant-loop-left : goal.invariant-loop-left
invariant-loop-left l = texts_of l.texts ++ named_in (map view l.left) ≡ texts_of l.initial.texts ++ named_in (map view l.initial.left)

abbrev pub decreases-loop-left : goal.decreases-loop-left
decreases-loop-left l = length l.left
