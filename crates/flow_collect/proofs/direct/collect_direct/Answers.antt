use Rattle.std.proofs.Common.{◌≡◌, List, None, Some, sym, ap, ap₂, ◌∙◌}
use Rattle.std.specs.Prelude.{vec_len}
use Rattle.flow_collect.specs.Rated.{refuse_sampled, sampling_fault}
use Rattle.flow_collect.specs.Refusals.{fault_of_lots}
use Rattle.flow_collect.specs.declared.session_context.InContext.{InContext}
use Rattle.flow_collect.proofs.Failures.{judged_as}
use Rattle.flow_collect.proofs.LargeRuns.{large_due}
use Rattle.flow_collect.proofs.direct.collect_direct.Goals as goal

pub returns-in-Some-sampling_fault-clause-faults : goal.returns-in-Some-sampling_fault-clause-faults
returns-in-Some-sampling_fault-clause-faults g c =
    let sources = c.args.sources.items in
    let serial = c.in-Ok-Ok.serial in
    let h = rw c.in-Ok-Ok.field-0-is at c.in-Ok-Ok.ensures.headline in
    let fault = c.in-Some-sampling_fault.fault in
    let none : fault_of_lots c.args.lots (vec_len c.args.sources) ≡ None = ap (fault_of_lots c.args.lots) (sym c.len.ensures) ∙ sym c.direct_refusal.ensures ∙ c.in_default.is in
    let refuses = c.refuse_sampled-refuses.ensures ∙ ap (λ (l : List (InContext g.row.S.Denot)). refuse_sampled l) c.deref.ensures.value in
    let is : Some fault ≡ sampling_fault (refuse_sampled sources) serial.sessions.items = sym c.in-Some-sampling_fault.is ∙ c.sampling_fault.ensures ∙ ap₂ sampling_fault refuses c.deref-in-Ok-Ok.ensures.value in
    judged_as _ _ _ (refuse_sampled sources) serial.sessions.items c.deref-in-Some-sampling_fault.result.now fault c.sampling_failure.result c.sampling_failure.ensures none is
    (large_due g.S.Source.seen c.args.plan.now sources serial.sources.items serial.sessions.items h.records h.given)
    (λ same. record { afters = serial.sources.items; reports = serial.sessions.items; records = h.records; given = h.given; is = same })
