use Rattle.std.proofs.Common.{◌+◌, List, length, map, None, Some, ap, arith, subst, sym}
use Rattle.ipfix_wire.specs.declared.specifier.ElementId.{ElementId}
use Rattle.flow_table.specs.AddedUp.{rows_in}
use Rattle.largest_sessions.specs.LeftOut.{AreLeftOut}
use Rattle.largest_sessions.specs.SessionNumbers.{by_rows}
use Rattle.largest_sessions.specs.Walks.{Continues, IsFirstOf, Rows, Walked}
use Rattle.largest_sessions.proofs.FirstRows.{written_back}
use Rattle.largest_sessions.proofs.SessionTables.{all_ascend, left_out_by_records}
use Rattle.largest_sessions.proofs.Steps.{walked_begins, walked_ends, walked_on}
use Rattle.largest_sessions.proofs.leaving.left_out.Goals as goal

pub places-init : goal.places-init
places-init c =
    let count = length c.counters.result.now + 1 in
    let begins = map rows_in c.args.tables.items in
    subst (λ (all : List Rows). Walked count begins all c.new-out.result.items) (sym c.in_ok-cursors.ensures)
    (subst (Walked count begins begins) (sym c.new-out.ensures.items) (walked_begins count begins (all_ascend c.args.plan.now c.args.tables.items c.requires.fits)))

pub places-preserved-in-Continue-branch-4 : goal.places-preserved-in-Continue-branch-4
places-preserved-in-Continue-branch-4 c =
    let count = length c.counters.result.now + 1 in
    let begins = map rows_in c.args.tables.items in
    let on : Continues count c.places.cursors.items c.step.new.cursors (Some c.in-Some-2.index) = subst (Continues count c.places.cursors.items c.step.new.cursors) c.in-Some-2.is
    (subst (λ (all : List Rows). Continues count all c.step.new.cursors c.in_ok-index.field-0) c.deref_mut.ensures.value c.in_ok-index.ensures) in
    subst (λ (all : List Rows). Walked count begins all c.push.new.self.items) (sym (written_back c.step.new.cursors c.places.cursors.items c.places.cursors.len (omega (arith, ap length c.deref_mut.ensures.value))))
    (walked_on count begins c.places.cursors.items c.step.new.cursors c.places.out.items c.push.new.self.items (Some c.in-Some-2.index) c.places.invariant on c.in_ok-push.ensures.items)

pub returns : goal.returns
returns c = λ lists are.
    let begins = map rows_in c.args.tables.items in
    let none : IsFirstOf c.places.cursors.items (length c.places.cursors.items) None = subst (λ (all : List Rows). IsFirstOf all (length all) None) c.deref.ensures.value
    (subst (IsFirstOf c.deref.result.now (length c.deref.result.now)) c.in_default.is c.first_cursor.ensures) in
    left_out_by_records c.args.plan.now lists c.args.tables.items c.places.out.items are
    (subst (λ (counters : List ElementId). AreLeftOut (length counters + 1) (map by_rows begins) c.places.out.items) c.counters.ensures.value
    (walked_ends (length c.counters.result.now + 1) begins c.places.cursors.items c.places.out.items c.places.invariant none))
