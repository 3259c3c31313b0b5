use Rattle.std.proofs.Common.{arith}
use Rattle.flow_table.specs.AddedUp.{place}
use Rattle.flow_table.specs.SameTables.{value_of}
use Rattle.largest_sessions.proofs.FirstRows.{all_small, large_with}
use Rattle.largest_sessions.proofs.walk.is_too_large.Goals as goal

pub returns-in_default-clause-yes : goal.returns-in_default-clause-yes
returns-in_default-clause-yes c = λ yes.
    large_with c.args.cursors.now (place (value_of c.args.place.now)) c.args.number c.loop-cursor.cursor-index c.loop-cursor.total c.number_at.result c.cursor-item.result (omega arith) c.cursor-item.is c.loop-cursor.invariant.sum c.number_at.ensures c.in_default.ensures

pub returns-clause-no : goal.returns-clause-no
returns-clause-no c = λ no.
    all_small c.args.cursors.now (place (value_of c.args.place.now)) c.args.number c.loop-cursor.cursor-index c.loop-cursor.total (omega (arith, c.loop-cursor-test.false)) c.loop-cursor.invariant.sum c.loop-cursor.invariant.small
