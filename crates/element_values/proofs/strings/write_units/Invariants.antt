use Rattle.std.proofs.Common.{take}
use Rattle.std.specs.List.{flat_map}
use Rattle.std.specs.Io.KnownBytes.{Appends}
use Rattle.element_values.specs.Strings.{escaped_unit}
use Rattle.element_values.proofs.strings.write_units.Given as goal

abbrev pub invariant-loop-unit : goal.invariant-loop-unit
invariant-loop-unit g l = Appends (g.W.Write.contents l.fn.out) (g.W.Write.contents l.out) (flat_map escaped_unit (take l.unit-index l.units))
