use Rattle.flow_table.specs.AddedUp.{place}
use Rattle.flow_table.specs.SameTables.{value_of}
use Rattle.largest_sessions.specs.Walks.{HasMost}
use Rattle.largest_sessions.proofs.walk.most_at.Given as goal

abbrev pub invariant-loop-index : goal.invariant-loop-index
invariant-loop-index l = HasMost l.cursors l.index (place (value_of l.place)) l.number l.most
