use Rattle.std.proofs.Common.{◌≡◌, ◌+◌, take}
use Rattle.table_parts.specs.Tables.{inputs_before}
use Rattle.table_parts.proofs.tables.table_of_input.Given as goal

-- so many inputs are those of the tables before
abbrev pub invariant-loop-index : goal.invariant-loop-index
invariant-loop-index l = inputs_before (take l.index l.tables) + l.left ≡ l.fn.place
