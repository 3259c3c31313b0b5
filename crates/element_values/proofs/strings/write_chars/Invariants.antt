use Rattle.std.specs.List.{flat_map}
use Rattle.std.specs.Io.KnownBytes.{Appends}
use Rattle.element_values.specs.Strings.{escaped_char}
use Rattle.element_values.proofs.strings.write_chars.Given as goal

abbrev pub invariant-loop-character : goal.invariant-loop-character
invariant-loop-character g l = Appends (g.W.Write.contents l.fn.out) (g.W.Write.contents l.out) (flat_map escaped_char l.yielded)
