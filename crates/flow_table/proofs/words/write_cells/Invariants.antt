use Rattle.std.proofs.Common.{◌≡◌, ◌++◌, drop}
use Rattle.flow_table.specs.Words.{key_from}
use Rattle.flow_table.proofs.WordSteps.{left_cells}
use Rattle.flow_table.proofs.words.write_cells.Given as goal

abbrev pub invariant-loop-place : goal.invariant-loop-place
invariant-loop-place l = l.cells.items ++ left_cells l.half (drop l.place l.kinds) l.rest ≡ key_from l.kinds l.words
