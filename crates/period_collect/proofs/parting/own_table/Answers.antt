use Rattle.std.proofs.Common.{◌≡◌, List, [], ◌∷◌, Err, None, Some, ap, refl, sym, subst}
use Rattle.report_writing.specs.Told.{AreToldTo}
use Rattle.report_writing.specs.declared.origin.Origin.{Origin}
use Rattle.flow_table.specs.Plans.{PlanValue}
use Rattle.flow_table.specs.Fitting.{FitsPlan}
use Rattle.flow_table.specs.Tables.{IsTable}
use Rattle.flow_collect.specs.Headline.{all_of}
use Rattle.flow_collect.specs.InFull.{IsGivenInContext}
use Rattle.flow_collect.specs.Refusals.{AreTooLargeInContext}
use Rattle.command_collect.specs.Exporters.{in_context}
use Rattle.command_collect.specs.Gathered.{GathersBy}
use Rattle.period_collect.specs.Exporters.{AreExportersOf}
use Rattle.period_collect.proofs.OwnTablesKept.{nothing_opened}
use Rattle.period_collect.proofs.parting.own_table.Goals as goal

pub returns-in-Ok-collect_job-clause-own : goal.returns-in-Ok-collect_job-clause-own
returns-in-Ok-collect_job-clause-own g c =
    let seen = g.S.Source.seen in
    let job = c.job_with-job.result in
    let had = c.in-Ok-open_all.field-0 in
    let gathered = c.in-Ok-collect_job.gathered in
    let by = subst (λ (os : List Origin). GathersBy job.engine (IsGivenInContext seen) (in_context job had.sources os) job.plan.now gathered) c.deref-in-Ok-open_all.ensures.value
    (subst (λ ss. GathersBy job.engine (IsGivenInContext seen) (in_context job ss c.deref-in-Ok-open_all.result.now) job.plan.now gathered) c.into_sources-sources.ensures.list c.in-Ok-collect_job.ensures.ok) in
    let rs = all_of by.collects.headline.records in
    let same_plan : job.plan.now ≡ c.args.maker.now.job.collect.plan.now = ap (λ j. j.plan.now) c.job_with-job.ensures in
    record {
      alone = Some rs;
      is_alone = record {
        word = c.args.path;
        is_word = refl;
        with_exporter = job;
        sources = had.sources;
        origins = had.origins.items;
        is_job = record { exporters = c.deref.result; are_exporters = subst (AreExportersOf (c.args.path ∷ [])) (sym c.deref.ensures.value) c.in-Ok.ensures; same = c.job_with-job.ensures };
        opened = c.in-Ok-open_all.ensures.opened;
        files = c.in-Ok-open_all.ensures.named;
        gave = (by.collected, by.collects, refl);
        told = subst (AreToldTo g.E.WriteLines.lines c.args.maker.now.err c.open_all.new.err) (nothing_opened had.origins.items) c.in-Ok-open_all.ensures.told;
        same = refl;
      };
      is_table = subst (λ (plan : PlanValue). IsTable plan rs gathered.run.table × FitsPlan plan gathered.run.table) same_plan
          (subst (IsTable job.plan.now rs) (sym by.gathered.table_is) by.collects.headline.added_up.table_is, c.in-Ok-collect_job.ensures.fits);
    }

pub returns-in-SumTooLarge-clause-own : goal.returns-in-SumTooLarge-clause-own
returns-in-SumTooLarge-clause-own g c =
    let seen = g.S.Source.seen in
    let job = c.job_with-job.result in
    let had = c.in-Ok-open_all.field-0 in
    record {
      alone = None;
      is_alone = record {
        word = c.args.path;
        is_word = refl;
        with_exporter = job;
        sources = had.sources;
        origins = had.origins.items;
        is_job = record { exporters = c.deref.result; are_exporters = subst (AreExportersOf (c.args.path ∷ [])) (sym c.deref.ensures.value) c.in-Ok.ensures; same = c.job_with-job.ensures };
        opened = c.in-Ok-open_all.ensures.opened;
        files = c.in-Ok-open_all.ensures.named;
        gave = subst (λ (os : List Origin). AreTooLargeInContext seen job.plan.now (in_context job had.sources os)) c.deref-in-Ok-open_all.ensures.value
            (subst (λ ss. AreTooLargeInContext seen job.plan.now (in_context job ss c.deref-in-Ok-open_all.result.now)) c.into_sources-sources.ensures.list
            (c.in-Err-collect_job.ensures.faults.too_large (ap Err c.in-SumTooLarge.is)));
        told = subst (AreToldTo g.E.WriteLines.lines c.args.maker.now.err c.open_all.new.err) (nothing_opened had.origins.items) c.in-Ok-open_all.ensures.told;
        same = refl;
      };
      is_table = tt;
    }
