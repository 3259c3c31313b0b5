use Rattle.std.proofs.Common.{take}
use Rattle.std.specs.Io.KnownBytes.{Appends}
use Rattle.command_elements.specs.Listed.{of_files}
use Rattle.command_elements.specs.Searches.{Shows}
use Rattle.command_elements.proofs.listing.write_entries.Given as goal

-- the first entries were looked at
abbrev pub invariant-loop-entry : goal.invariant-loop-entry
invariant-loop-entry g l = Shows l.search (of_files (take l.entry-index l.entries)) (Appends (g.W.Write.contents l.initial.out) (g.W.Write.contents l.out)) l.is_any
