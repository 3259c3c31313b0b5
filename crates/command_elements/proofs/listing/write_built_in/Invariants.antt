use Rattle.std.specs.Io.KnownBytes.{Appends}
use Rattle.command_elements.specs.Searches.{Shows}
use Rattle.command_elements.proofs.BuiltIn.{built_in_below}
use Rattle.command_elements.proofs.listing.write_built_in.Given as goal

-- the elements with smaller numbers were looked at
abbrev pub invariant-loop-number : goal.invariant-loop-number
invariant-loop-number g l = Shows l.search (built_in_below l.number) (Appends (g.W.Write.contents l.initial.out) (g.W.Write.contents l.out)) l.is_any
