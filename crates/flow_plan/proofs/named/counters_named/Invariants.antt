use Rattle.std.proofs.Common.{◌≡◌, map, take, Some}
use Rattle.element_registry.specs.Registries.{element_by_name}
use Rattle.flow_plan.specs.PlanTexts.{all_of}
use Rattle.flow_plan.proofs.named.counters_named.Given as goal

-- the first texts are named
abbrev pub invariant-loop-text : goal.invariant-loop-text
invariant-loop-text l = all_of (element_by_name l.elements) (map (λ t. t.now) (take l.text-index l.texts)) ≡ Some l.counters.items
