use Rattle.std.proofs.Common.{◌≡◌, List, length, subst, sym, ap, ◌∙◌}
use Rattle.std.specs.Prelude.{Ok, Err, vec_len}
use Rattle.flow_collect.specs.Failures.{TellsLarge}
use Rattle.flow_collect.specs.InFull.{IsGivenInContext}
use Rattle.flow_collect.specs.declared.session_context.InContext.{InContext}
use Rattle.flow_collect.specs.declared.fault.CollectFault.TheVariants.{OutOfMemory}
use Rattle.flow_table.specs.Fitting.{FitsPlan}
use Rattle.command_collect.specs.Engines.{due_fault, CollectsBy}
use Rattle.command_collect.specs.Exporters.{in_context}
use Rattle.command_collect.proofs.Ran.{as_many}
use Rattle.command_collect.proofs.Refused.{faults_alone, faults_elsewhere, faults_if_had, faults_if_memory, faults_if_not_had, names_alone, no_memory_named, none_named, refused_first}
use Rattle.command_collect.proofs.table.collect_job.Goals as goal

pub returns-in-Some-clause-faults : goal.returns-in-Some-clause-faults
returns-in-Some-clause-faults g c =
    let job = c.args.job.now in
    faults_alone _ _ _ c.in-Some.fault c.only.result c.only.ensures
    (refused_first job.engine (vec_len c.args.sources) _ _ c.in-Some.fault (ap (due_fault job.engine) (sym c.len.ensures) ∙ sym c.refusal.ensures ∙ c.in-Some.is))

pub returns-in-Some-clause-large : goal.returns-in-Some-clause-large
returns-in-Some-clause-large g c =
    let job = c.args.job.now in
    let given = in_context job c.args.sources.items c.args.origins.now in
    names_alone g.S.Source.seen job.plan.now given c.in-Some.fault c.only.result c.only.ensures
    (none_named g.S.Source.seen job.plan.now given job.engine (vec_len c.args.sources) c.in-Some.fault (ap (due_fault job.engine) (sym c.len.ensures) ∙ sym c.refusal.ensures ∙ c.in-Some.is))

pub returns-in-Err-clause-large : goal.returns-in-Err-clause-large
returns-in-Err-clause-large g c =
    let job = c.args.job.now in
    let given = in_context job c.args.sources.items c.args.origins.now in
    names_alone g.S.Source.seen job.plan.now given OutOfMemory c.only-in-Err.result c.only-in-Err.ensures (no_memory_named g.S.Source.seen job.plan.now given)

pub returns-in-Ok-gather-clause-ok : goal.returns-in-Ok-gather-clause-ok
returns-in-Ok-gather-clause-ok g c =
    let job = c.args.job.now in
    record {
      collected = c.in-Ok-collect.collected;
      collects = subst (λ (given : List (InContext g.row.S.Denot)). CollectsBy job.engine (IsGivenInContext g.S.Source.seen) given job.plan.now c.in-Ok-collect.collected) c.in-Ok.ensures c.in-Ok-collect.ensures.ok;
      gathered = c.in-Ok-gather.ensures;
    }

pub returns-in-Ok-gather-clause-fits : goal.returns-in-Ok-gather-clause-fits
returns-in-Ok-gather-clause-fits g c = subst (FitsPlan c.args.job.now.plan.now) (sym c.in-Ok-gather.ensures.table_is) c.in-Ok-collect.ensures.fits

pub returns-in-Ok-gather-clause-faults : goal.returns-in-Ok-gather-clause-faults
returns-in-Ok-gather-clause-faults g c =
    let job = c.args.job.now in
    let given = in_context job c.args.sources.items c.args.origins.now in
    let many : vec_len c.in-Ok.given ≡ vec_len c.args.sources = c.in-Ok.given.ok.0 ∙ ap length c.in-Ok.ensures ∙ as_many job c.args.sources.items job.exporters.now c.args.origins.now ∙ sym c.args.sources.ok.0 in
    faults_elsewhere g.S.Source.seen job.plan.now job.engine _ _ c.in-Ok.given.items given (Ok c.in-Ok-gather.gathered) many c.in-Ok.ensures
    (faults_if_had _ _ _ c.in-Ok-collect.collected c.in-Ok-gather.gathered c.in-Ok-collect.ensures.faults)

pub returns-in-Err-gather-clause-faults : goal.returns-in-Err-gather-clause-faults
returns-in-Err-gather-clause-faults g c =
    let job = c.args.job.now in
    let given = in_context job c.args.sources.items c.args.origins.now in
    let many : vec_len c.in-Ok.given ≡ vec_len c.args.sources = c.in-Ok.given.ok.0 ∙ ap length c.in-Ok.ensures ∙ as_many job c.args.sources.items job.exporters.now c.args.origins.now ∙ sym c.args.sources.ok.0 in
    faults_alone _ _ _ OutOfMemory c.only-in-Err-gather.result c.only-in-Err-gather.ensures
    (faults_elsewhere g.S.Source.seen job.plan.now job.engine _ _ c.in-Ok.given.items given (Err OutOfMemory) many c.in-Ok.ensures
    (faults_if_memory _ _ _ c.in-Ok-collect.collected c.in-Ok-collect.ensures.faults))

pub returns-in-Err-gather-clause-large : goal.returns-in-Err-gather-clause-large
returns-in-Err-gather-clause-large g c =
    let job = c.args.job.now in
    let given = in_context job c.args.sources.items c.args.origins.now in
    names_alone g.S.Source.seen job.plan.now given OutOfMemory c.only-in-Err-gather.result c.only-in-Err-gather.ensures (no_memory_named g.S.Source.seen job.plan.now given)

pub returns-in-Err-collect-clause-faults : goal.returns-in-Err-collect-clause-faults
returns-in-Err-collect-clause-faults g c =
    let job = c.args.job.now in
    let given = in_context job c.args.sources.items c.args.origins.now in
    let many : vec_len c.in-Ok.given ≡ vec_len c.args.sources = c.in-Ok.given.ok.0 ∙ ap length c.in-Ok.ensures ∙ as_many job c.args.sources.items job.exporters.now c.args.origins.now ∙ sym c.args.sources.ok.0 in
    faults_elsewhere g.S.Source.seen job.plan.now job.engine _ _ c.in-Ok.given.items given (Err c.in-Err-collect.failure.fault) many c.in-Ok.ensures
    (faults_if_not_had _ _ _ c.in-Err-collect.failure.fault c.in-Err-collect.ensures.faults)

pub returns-in-Err-collect-clause-large : goal.returns-in-Err-collect-clause-large
returns-in-Err-collect-clause-large g c =
    let job = c.args.job.now in
    subst (λ (given : List (InContext g.row.S.Denot)). TellsLarge g.S.Source.seen job.plan.now given c.in-Err-collect.failure) c.in-Ok.ensures c.in-Err-collect.ensures.large
