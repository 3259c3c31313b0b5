use Rattle.std.proofs.Common.{length, take}
use Rattle.flow_merge.specs.RowRecords.{AreProjected}
use Rattle.flow_merge.proofs.row_reading.are_projected.Given as goal

-- the cells so far
abbrev pub invariant-loop-key : goal.invariant-loop-key
invariant-loop-key l = AreProjected (take (length l.yielded) l.keys) (take (length l.yielded) l.cells)
