use Rattle.std.proofs.Common.{take}
use Rattle.command_tables.specs.Named.{AreFilesOf}
use Rattle.command_tables.proofs.days.names.files_of.Given as goal

-- the first are there
abbrev pub invariant-loop-part : goal.invariant-loop-part
invariant-loop-part l = AreFilesOf (take l.part-index l.names) l.files.items
