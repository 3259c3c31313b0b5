use Rattle.std.proofs.Common.{take}
use Rattle.prefix_numbers.specs.Flat.{AreNumbers}
use Rattle.prefix_numbers.proofs.flattening.numbers_of.Given as goal

-- the numbers are those of the rows up to here
abbrev pub invariant-loop-row : goal.invariant-loop-row
invariant-loop-row l = AreNumbers (take l.row-index l.rows) l.width l.starts l.numbers.items
