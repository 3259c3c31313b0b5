use Rattle.std.proofs.Common.{◌≡◌, length}
use Rattle.flow_maps.specs.Numbers.{first_address}
use Rattle.flow_maps.proofs.map_key.first_address.Given as goal

abbrev pub invariant-loop-elements : goal.invariant-loop-elements
invariant-loop-elements l = first_address l.elements l.fields ≡ first_address l.initial.elements l.fields

abbrev pub decreases-loop-elements : goal.decreases-loop-elements
decreases-loop-elements l = length l.elements
