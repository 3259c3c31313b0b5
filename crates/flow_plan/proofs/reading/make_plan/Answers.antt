use Rattle.std.proofs.Common.{Err, ap, ◌∙◌}
use Rattle.std.proofs.lemmas.Result.{err_from_is_err_and}
use Rattle.flow_plan.specs.declared.error.PlanTextError.{PlanTextError}
use Rattle.flow_plan.specs.Shown.{shown}
use Rattle.flow_plan.proofs.Told.{of_counters, of_keys}
use Rattle.flow_plan.proofs.reading.make_plan.Goals as goal

pub returns-in_err-keys-clause-reads : goal.returns-in_err-keys-clause-reads
returns-in_err-keys-clause-reads c =
    let told = of_keys c.args.elements.now (shown c.args.fields.now) c.in_err-keys.field-0.0 (rw c.deref.ensures.value at c.in_err-keys.ensures) in
    let p = err_from_is_err_and c.from_residual.result c.from_residual.ensures.1 in
    rw (p.1 ∙ ap (λ (f : PlanTextError). Err f) p.2) told

pub returns-in_err-counters-clause-reads : goal.returns-in_err-counters-clause-reads
returns-in_err-counters-clause-reads c =
    let e = c.in_err-counters.field-0.0 in
    let told = of_counters c.args.elements.now (shown c.args.fields.now) c.in_ok-keys.keys.items e (rw c.deref.ensures.value at c.in_ok-keys.ensures) (rw c.deref-2.ensures.value at c.in_err-counters.ensures) in
    let p = err_from_is_err_and c.from_residual-in_err-counters.result c.from_residual-in_err-counters.ensures.1 in
    rw (p.1 ∙ ap (λ (f : PlanTextError). Err f) p.2) told
