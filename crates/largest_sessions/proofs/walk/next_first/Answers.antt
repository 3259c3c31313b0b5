use Rattle.std.proofs.Common.{arith, subst, sym}
use Rattle.flow_table.specs.AddedUp.{place}
use Rattle.flow_table.specs.SameTables.{value_of}
use Rattle.largest_sessions.specs.Walks.{IsBefore, IsFirstOf, StartsFirst, StartsWith}
use Rattle.largest_sessions.proofs.FirstRows.{at_index, first_changes}
use Rattle.largest_sessions.proofs.walk.next_first.Goals as goal

pub returns-then-is_after : goal.returns-then-is_after
returns-then-is_after c =
    let row = value_of c.in-Some.row.now in
    let before : StartsFirst c.args.cursors.now c.args.index c.in-Some-first.other = subst (IsFirstOf c.args.cursors.now c.args.index) c.in-Some-first.is c.requires.first in
    first_changes c.args.cursors.now c.args.index c.in-Some-first.other row before
    (subst (StartsWith row) (sym (at_index c.args.cursors.now c.args.index c.index-cursors-index.result c.requires.inside c.index-cursors-index.is)) c.in-Some.ensures.some)
    (subst (IsBefore (place row)) (sym (at_index c.args.cursors.now c.in-Some-first.other c.index-cursors-other.result (omega (arith, before.inside, c.requires.inside)) c.index-cursors-other.is)) (c.is_after.ensures.yes c.if-is_after.true))
