use Rattle.std.proofs.Common.{map}
use Rattle.flow_table.specs.AddedUp.{rows_in}
use Rattle.largest_sessions.specs.Walks.{Walked, rows_left}
use Rattle.largest_sessions.proofs.leaving.left_out.Given as goal

abbrev pub invariant-places : goal.invariant-places
invariant-places l = Walked l.count (map rows_in l.fn.tables.items) l.cursors.items l.out.items

abbrev pub decreases-places : goal.decreases-places
decreases-places l = rows_left l.cursors.items
