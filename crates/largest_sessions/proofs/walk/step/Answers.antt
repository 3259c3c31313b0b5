use Rattle.std.proofs.Common.{◌∙◌, set, ap, subst, sym}
use Rattle.flow_table.specs.SameTables.{value_of}
use Rattle.largest_sessions.specs.Walks.{Rows, StartsWith}
use Rattle.largest_sessions.proofs.FirstRows.{at_index}
use Rattle.largest_sessions.proofs.Steps.{step_goes, step_on}
use Rattle.largest_sessions.proofs.walk.step.Goals as goal

pub returns-in_default : goal.returns-in_default
returns-in_default c =
    let row = value_of c.write_row.new.row in
    let here = at_index c.args.cursors.now c.args.first c.index-cursors-first.result c.requires.first.inside c.index-cursors-first.is in
    step_on c.args.count c.args.cursors.now c.pass_place.new.cursors row c.args.first c.requires.ascend c.requires.first (subst (StartsWith row) (sym (here ∙ c.index-cursors-first.is)) c.in_ok-write_row.ensures)
    (c.large_number.ensures.none c.in_default.is) c.in_ok-pass_place.ensures

pub returns : goal.returns
returns c =
    let row = value_of c.write_row.new.row in
    let here = at_index c.args.cursors.now c.args.first c.index-cursors-first.result c.requires.first.inside c.index-cursors-first.is in
    step_goes c.args.count c.args.cursors.now (set c.args.cursors.now c.most_at-most.result c.close.new.self) row c.args.first c.in-Some.number c.most_at-most.result c.requires.ascend c.requires.first
    (subst (StartsWith row) (sym (here ∙ c.index-cursors-first.is)) c.in_ok-write_row.ensures) c.in-Some.ensures.inside c.in-Some.ensures.large c.in-Some.ensures.first c.most_at-most.ensures
    (ap (λ (rows : Rows). set c.args.cursors.now c.most_at-most.result rows) c.close.ensures)
