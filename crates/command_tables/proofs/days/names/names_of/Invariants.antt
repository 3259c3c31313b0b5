use Rattle.std.proofs.Common.{take}
use Rattle.command_tables.specs.Named.{AreNamesOf}
use Rattle.command_tables.proofs.days.names.names_of.Given as goal

-- the first are named
abbrev pub invariant-loop-period : goal.invariant-loop-period
invariant-loop-period l = AreNamesOf (take l.period-index l.periods) l.names.items
