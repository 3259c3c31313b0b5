use Rattle.std.proofs.Common.{◌≡◌, ◌++◌, length, map, option_map}
use Rattle.flow_plan_fields.specs.Keys.{addresses_of}
use Rattle.flow_plan_fields.proofs.addresses.addresses_named.Given as goal

-- what was named, and what the parts that are left name
abbrev pub invariant-loop-left : goal.invariant-loop-left
invariant-loop-left l = option_map (λ more. l.addresses.items ++ more) (addresses_of l.elements (map (λ t. t.now) l.left)) ≡ addresses_of l.elements (map (λ t. t.now) l.initial.left)

abbrev pub decreases-loop-left : goal.decreases-loop-left
decreases-loop-left l = length l.left
