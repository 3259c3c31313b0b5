use Rattle.std.proofs.Common.{◌++◌, take, codes}
use Rattle.std.specs.List.{flat_map}
use Rattle.std.specs.Io.KnownBytes.{Appends}
use Rattle.element_values.specs.Strings.{escaped_octet}
use Rattle.element_values.proofs.strings.write_quoted.Given as goal

abbrev pub invariant-loop-octet : goal.invariant-loop-octet
invariant-loop-octet g l = Appends (g.W.Write.contents l.fn.out) (g.W.Write.contents l.out) (codes "\"" ++ flat_map escaped_octet (take l.octet-index l.octet-items))
