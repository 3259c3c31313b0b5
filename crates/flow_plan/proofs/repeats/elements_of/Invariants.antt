use Rattle.std.proofs.Common.{◌≡◌, take}
use Rattle.flow_plan.specs.Blames.{elements_of}
use Rattle.flow_plan.proofs.repeats.elements_of.Given as goal

-- the first counters follow the keys
abbrev pub invariant-loop-counter : goal.invariant-loop-counter
invariant-loop-counter l = l.elements.items ≡ elements_of l.keys (take l.counter-index l.counters)
