use Rattle.std.proofs.Common.{◌≡◌, ◌∙◌, sym, ap, length}
use Rattle.std.specs.Prelude.{vec_len}
use Rattle.std.proofs.lemmas.List.{length-map}
use Rattle.std.specs.declared.alloc.Global.{Global}
use Rattle.std.specs.declared.vec.Vec.{Vec}
use Rattle.flow_collect.specs.declared.collected.FilteredReport.{FilteredReport}
use Rattle.flow_collect.specs.InFull.{IsGivenInContext}
use Rattle.input_digests.specs.declared.hashed_source.HashedSource.{HashedSource}
use Rattle.command_collect.specs.Engines.{due_fault}
use Rattle.command_collect.specs.Exporters.{in_context}
use Rattle.command_collect.specs.Gathered.{GathersBy}
use Rattle.command_collect.proofs.Parts.{gathers_parts, names_parts, refused_parts, too_large_parts}
use Rattle.command_collect.proofs.Placed.{as_many_each, gathered_digests}
use Rattle.command_collect.proofs.Refusals.{fault_of_part}
use Rattle.command_collect.proofs.receipts.collecting.collect_from.Goals as goal

pub returns-in-Err-clause-faults : goal.returns-in-Err-clause-faults
returns-in-Err-clause-faults g c =
    let part = λ (h : HashedSource g.row.S.Denot g.row.T.Denot g.S.Source g.T.Start). h.source in
    let job = c.args.job.now in
    let many : vec_len c.in-Ok.hashed ≡ vec_len c.args.sources = c.in-Ok.hashed.ok.0 ∙ sym (length-map c.in-Ok.hashed.items part) ∙ ap length c.in-Ok.ensures ∙ sym c.args.sources.ok.0 in
    fault_of_part _ _ _ _ _ _ c.in-Err.failure.fault (ap (due_fault job.engine) many) (too_large_parts part g.S.Source.seen job job.plan.now c.in-Ok.hashed.items c.args.sources.items c.args.origins.now c.in-Ok.ensures)
    (refused_parts part g.S.Source.seen job c.in-Ok.hashed.items c.args.sources.items c.args.origins.now c.in-Ok.ensures) c.in-Err.ensures.faults

pub returns-in-Err-clause-large : goal.returns-in-Err-clause-large
returns-in-Err-clause-large g c =
    let part = λ (h : HashedSource g.row.S.Denot g.row.T.Denot g.S.Source g.T.Start). h.source in
    let job = c.args.job.now in
    names_parts part g.S.Source.seen job job.plan.now c.in-Ok.hashed.items c.args.sources.items c.args.origins.now c.in-Err.failure c.in-Ok.ensures c.in-Err.ensures.large

pub finish_run-requires : goal.finish_run-requires
finish_run-requires g c =
    let by = c.in-Ok-collect_job.ensures.ok in
    let sources = ap (λ (v : Vec (HashedSource g.row.S.Denot g.row.T.Denot g.S.Source g.T.Start) Global). length v.items) by.gathered.sources_are in
    sources ∙ as_many_each _ _ _ _ _ by.collects.headline.given ∙ sym (length-map by.collected.sessions.items (λ (told : FilteredReport). told.full)) ∙ ap length (sym by.gathered.sessions_are)

pub returns-in-Ok-finish_run-clause-ok : goal.returns-in-Ok-finish_run-clause-ok
returns-in-Ok-finish_run-clause-ok g c =
    let part = λ (h : HashedSource g.row.S.Denot g.row.T.Denot g.S.Source g.T.Start). h.source in
    let job = c.args.job.now in
    let run = c.in-Ok-finish_run.ensures in
    gathers_parts part g.S.Source.seen job.engine job job.plan.now c.in-Ok.hashed.items c.args.sources.items c.args.origins.now c.in-Ok-collect_job.gathered c.in-Ok-finish_run.run'.gathered
    c.in-Ok.ensures run.sources run.sessions run.table run.filtered run.sampling run.times c.in-Ok-collect_job.ensures.ok

pub returns-in-Ok-finish_run-clause-digests : goal.returns-in-Ok-finish_run-clause-digests
returns-in-Ok-finish_run-clause-digests g c =
    let job = c.args.job.now in
    let ok : GathersBy job.engine (IsGivenInContext g.S.Source.seen) (in_context job c.args.sources.items c.args.origins.now) job.plan.now c.in-Ok-finish_run.run'.gathered = returns-in-Ok-finish_run-clause-ok g c in
    gathered_digests g.S.Source.seen job.engine job job.plan.now g.T.Start.texts c.args.sources.items c.args.origins.now c.in-Ok-finish_run.run'.gathered _ c.requires.start ok c.in-Ok-finish_run.ensures.digests
