use Rattle.std.proofs.Common.{◌≡◌, length, map}
use Rattle.element_registry.specs.Types.{kind_among, shown_type}
use Rattle.element_registry.proofs.types.find_type.Given as goal

abbrev pub invariant-loop-types : goal.invariant-loop-types
invariant-loop-types l = kind_among (map shown_type l.types) l.name ≡ kind_among (map shown_type l.initial.types) l.name

abbrev pub decreases-loop-types : goal.decreases-loop-types
decreases-loop-types l = length l.types
