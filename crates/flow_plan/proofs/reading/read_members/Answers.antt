use Rattle.std.proofs.Common.{Some, Err, List, ap, sym, refl, ◌∙◌}
use Rattle.std.proofs.lemmas.Result.{err_from_is_err_and}
use Rattle.toml.specs.View.{table_view}
use Rattle.flow_plan.specs.declared.error.PlanTextError.{PlanTextError}
use Rattle.flow_plan.specs.Shown.{shown}
use Rattle.flow_plan.proofs.Told.{of_key, of_fields}
use Rattle.flow_plan.proofs.Values.{all_known, some_unknown}
use Rattle.flow_plan.proofs.reading.read_members.Goals as goal

pub returns-in-Some-clause-reads : goal.returns-in-Some-clause-reads
returns-in-Some-clause-reads c =
    let d = table_view c.args.table.now in
    let found = sym (rw c.in-Some.is at c.unknown_field.ensures) in
    (rw (some_unknown d _ found) refl, found ∙ ap (λ (s : List _). Some s) (sym c.in_ok-clone.ensures.cases))

pub returns-in_err-fields-clause-reads : goal.returns-in_err-fields-clause-reads
returns-in_err-fields-clause-reads c =
    let d = table_view c.args.table.now in
    let known = all_known d (sym (rw c.in_default.is at c.unknown_field.ensures)) in
    let p = err_from_is_err_and c.from_residual-in_err-fields.result c.from_residual-in_err-fields.ensures.1 in
    rw (p.1 ∙ ap (λ (e : PlanTextError). Err e) p.2) (of_key c.args.elements.now d c.in_err-fields.field-0.0 known c.in_err-fields.ensures)

pub returns-clause-reads : goal.returns-clause-reads
returns-clause-reads c =
    let d = table_view c.args.table.now in
    let known = all_known d (sym (rw c.in_default.is at c.unknown_field.ensures)) in
    of_fields c.args.elements.now d (shown c.in_ok-fields.fields) c.make_plan.result known c.in_ok-fields.ensures c.make_plan.ensures.reads
