use Rattle.std.proofs.Common.{◌≡◌, inl, inr, length, refl, rules}
use Rattle.std.specs.Prelude.{◌↔◌, is_some, vec_len}
use Rattle.report_writing.specs.Statuses.{number_of}
use Rattle.report_writing.specs.Told.{AreToldTo}
use Rattle.report_writing.proofs.Ended.{never_three, one_of_three, zero_if_well}
use Rattle.report_writing.proofs.LinesTold.{is_told}
use Rattle.output_tables.proofs.NotWritten.{not_written}
use Rattle.command_collect.specs.Engines.{due_fault}
use Rattle.command_collect.specs.Exporters.{in_context}
use Rattle.command_collect.specs.Runs.{WentWell}
use Rattle.command_collect.proofs.Ran.{not_written_of, of_gathered, tells_gathered, writes_table}
use Rattle.command_collect.proofs.Refused.{job_fault, not_refused, refusal_named}
use Rattle.command_collect.proofs.table.run_with.Goals as goal

pub returns-in-Err-clause-runs : goal.returns-in-Err-clause-runs
returns-in-Err-clause-runs g c =
    let job = c.args.job.now in
    let told = is_told _ _ _ c.write_failure.result _ c.write_failure.ensures.told c.write_failure.ensures.failed in
    let same : vec_len c.args.sources ≡ length c.args.sources.items = search rules in
    let fault = job_fault _ _ _ _ job.engine c.in-Err.failure.fault same c.in-Err.ensures.faults in
    let given = in_context job c.args.sources.items c.args.origins.now in
    record {
      statuses = inr (inr refl);
      table = λ ran. absurd (ran refl);
      failed = λ failed. inl (c.in-Err.failure, record { fault_is = fault; names = c.in-Err.ensures.large }, refl, told);
      refused = refusal_named g.S.Source.seen job.plan.now given job.engine (length c.args.sources.items) c.in-Err.failure job.verbosity c.args.origins.now _ _
          (AreToldTo g.E.WriteLines.lines c.args.err.now c.write_failure.new.out) (due_fault job.engine (length c.args.sources.items)) refl fault.arguments c.in-Err.ensures.large refl refl told;
    }

pub returns-in-Err-export-clause-runs : goal.returns-in-Err-export-clause-runs
returns-in-Err-export-clause-runs g c =
    let same : vec_len c.args.sources ≡ length c.args.sources.items = search rules in
    let export = c.in-Err-export.ensures in
    let by = c.in-Ok.ensures.ok in
    record {
      statuses = inr (inr refl);
      table = λ ran. absurd (ran refl);
      failed = λ failed. inr (
        c.in-Err-export.fault,
        record { collected = by.collected; collects = by.collects; not_written = not_written_of c.args.job.now.output _ c.in-Err-export.fault by.collected c.in-Ok.gathered by.gathered (not_written _ _ _ c.in-Err-export.fault export.many (λ many. export.untouched many)) },
        is_told _ _ _ c.write_export_fault.result _ c.write_export_fault.ensures.told c.write_export_fault.ensures.failed,
      );
      refused = not_refused _ _ _ _ c.args.job.now.engine c.in-Ok.gathered _ same c.in-Ok.ensures.faults;
    }

pub returns-clause-runs : goal.returns-clause-runs
returns-clause-runs g c =
    let same : vec_len c.args.sources ≡ length c.args.sources.items = search rules in
    let status = number_of c.status_of.result in
    let job = c.args.job.now in
    let given = in_context job c.args.sources.items c.args.origins.now in
    let by = c.in-Ok.ensures.ok in
    let strict = job.verbosity.strict in
    let is_scaled = is_some job.estimates in
    let told = zero_if_well c.status_of.result status _ refl c.status_of.ensures.ends c.status_of.ensures.well in
    let well = of_gathered (λ sources fulls samplings times table n. (status ≡ 0) ↔ WentWell strict is_scaled fulls samplings table) by.collected c.in-Ok.gathered by.gathered told in
    record {
      statuses = one_of_three c.status_of.result status refl c.status_of.ensures.ends;
      table = λ ran.
          writes_table g.S.Source.seen strict is_scaled job.plan.now job.engine status _ given by.collected by.collects well
          (λ zero. c.status_of.ensures.whole by.collected by.gathered given job.plan.now by.collects.headline (told.0 zero))
          (tells_gathered g.W.Write.contents c.args.out.now _ _ _ job c.args.origins.now by.collected c.in-Ok.gathered by.gathered (search rules)
          (record { ended = c.tell.ensures.ended; are_ended = c.tell.ensures.are_ended; told = is_told _ _ _ c.tell.result _ c.tell.ensures.told.told c.tell.ensures.told.failed }));
      failed = never_three c.status_of.result status refl c.status_of.ensures.ends;
      refused = not_refused _ _ _ _ job.engine c.in-Ok.gathered _ same c.in-Ok.ensures.faults;
    }
