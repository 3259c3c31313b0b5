use Rattle.largest_sessions.specs.Walks.{IsFirstOf}
use Rattle.largest_sessions.proofs.walk.first_cursor.Given as goal

abbrev pub invariant-loop-index : goal.invariant-loop-index
invariant-loop-index l = IsFirstOf l.cursors l.index l.first
