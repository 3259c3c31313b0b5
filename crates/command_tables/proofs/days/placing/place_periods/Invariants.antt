use Rattle.std.proofs.Common.{take}
use Rattle.command_tables.specs.Days.{ArePlaced}
use Rattle.command_tables.proofs.days.placing.place_periods.Given as goal

-- the first are placed
abbrev pub invariant-loop-period : goal.invariant-loop-period
invariant-loop-period l = ArePlaced l.calendar (take l.period-index l.periods) l.placed.items
