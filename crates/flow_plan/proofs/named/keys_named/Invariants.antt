use Rattle.std.proofs.Common.{◌≡◌, map, take, Some}
use Rattle.flow_plan.specs.PlanTexts.{all_of, key_named}
use Rattle.flow_plan.proofs.named.keys_named.Given as goal

-- the first texts are named
abbrev pub invariant-loop-text : goal.invariant-loop-text
invariant-loop-text l = all_of (key_named l.elements) (map (λ t. t.now) (take l.text-index l.texts)) ≡ Some l.keys.items
