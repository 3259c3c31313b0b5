use Rattle.std.proofs.Common.{◌≡◌, map}
use Rattle.flow_table.specs.AddedUp.{rows_in}
use Rattle.largest_sessions.proofs.leaving.cursors_of.Given as goal

abbrev pub invariant-loop-table : goal.invariant-loop-table
invariant-loop-table l = l.cursors.items ≡ map rows_in l.yielded
