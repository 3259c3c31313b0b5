use Rattle.std.proofs.Common.{◌≡◌, map, take}
use Rattle.receipt_differences.proofs.order.each_of.Given as goal

-- those so far
abbrev pub invariant-loop-input : goal.invariant-loop-input
invariant-loop-input l = map (λ i. i.now) l.each.items ≡ take l.input-index l.inputs
