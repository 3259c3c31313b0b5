use Rattle.std.proofs.Common.{arith}
use Rattle.flow_table.specs.AddedUp.{place}
use Rattle.flow_table.specs.SameTables.{value_of}
use Rattle.largest_sessions.specs.Walks.{after_place}
use Rattle.largest_sessions.proofs.FirstRows.{passed_on}
use Rattle.largest_sessions.proofs.walk.pass_place.Goals as goal

pub loop-cursor-preserved : goal.loop-cursor-preserved
loop-cursor-preserved c =
    passed_on (after_place (place (value_of c.args.place.now))) c.args.cursors.now c.loop-cursor.cursor-items c.loop-cursor.cursor-index c.cursor-item.result c.pass.new.self c.loop-cursor.invariant (omega arith) c.in_ok-pass.ensures
