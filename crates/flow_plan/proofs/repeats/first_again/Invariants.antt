use Rattle.std.proofs.Common.{◌≡◌, take, drop, []}
use Rattle.flow_plan.specs.Blames.{again_from}
use Rattle.flow_plan.proofs.repeats.first_again.Given as goal

-- none of the first keys stands again
abbrev pub invariant-loop-index : goal.invariant-loop-index
invariant-loop-index l = again_from [] 0 l.keys ≡ again_from (take l.index l.keys) l.index (drop l.index l.keys)
