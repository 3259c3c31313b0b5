use Rattle.std.proofs.Common.{◌≡◌, Err, ap, inl, inr, length, refl, rules}
use Rattle.std.specs.Prelude.{◌↔◌, is_some, vec_len}
use Rattle.report_writing.specs.Statuses.{number_of}
use Rattle.report_writing.specs.Told.{AreToldTo}
use Rattle.report_writing.proofs.Ended.{never_three, one_of_three, zero_if_well}
use Rattle.report_writing.proofs.LinesTold.{is_told}
use Rattle.command_collect.specs.Engines.{due_fault}
use Rattle.command_collect.specs.Exporters.{in_noting_context}
use Rattle.command_collect.specs.Runs.{WentWell}
use Rattle.command_collect.proofs.Ran.{of_gathered, tells_gathered, writes_table}
use Rattle.command_collect.proofs.Refused.{job_fault, not_refused, refusal_named}
use Rattle.command_collect.specs.Digests.{AreDigestsOf}
use Rattle.command_collect.proofs.ReceiptsCollected.{not_put_of, put_of}
use Rattle.command_collect.proofs.Hindered.{hindered_in, hindered_of}
use Rattle.command_collect.proofs.receipts.run.run_receipted.Goals as goal

pub returns-in-Err-clause-runs : goal.returns-in-Err-clause-runs
returns-in-Err-clause-runs g c =
    let job = c.args.job.now in
    let told = is_told _ _ _ c.write_failure.result _ c.write_failure.ensures.told c.write_failure.ensures.failed in
    let same : vec_len c.args.sources ≡ length c.args.sources.items = search rules in
    let fault = job_fault _ _ _ _ job.engine c.in-Err.failure.fault same c.in-Err.ensures.faults in
    let given = in_noting_context job c.args.sources.items c.args.origins.now in
    record {
      statuses = inr (inr refl);
      table = λ ran. absurd (ran refl);
      failed = λ failed. inl (c.in-Err.failure, record { fault_is = fault; names = c.in-Err.ensures.large }, refl, c.hindrance_in.ensures, told);
      refused = refusal_named g.S.Source.seen job.plan.now given job.engine (length c.args.sources.items) c.in-Err.failure job.verbosity c.args.origins.now _ _
          (AreToldTo g.E.WriteLines.lines c.args.err.now c.write_failure.new.out) (due_fault job.engine (length c.args.sources.items)) refl fault.arguments c.in-Err.ensures.large refl refl told;
    }

pub returns-in-Err-clause-hindered : goal.returns-in-Err-clause-hindered
returns-in-Err-clause-hindered g c =
    hindered_in g.S.Source.seen c.args.sources.items c.args.job.now c.args.origins.now c.in-Err.failure.fault c.hindrance_in.result c.hindrance_in.ensures (λ is. c.in-Err.ensures.faults.too_large (ap Err is))

pub returns-in-Err-answer-clause-runs : goal.returns-in-Err-answer-clause-runs
returns-in-Err-answer-clause-runs g c =
    let same : vec_len c.args.sources ≡ length c.args.sources.items = search rules in
    let by = c.in-Ok.ensures.ok in
    let digests = c.in-Ok.run'.digests.items in
    let told = is_told _ _ _ c.write_run_fault.result _ c.write_run_fault.ensures.told c.write_run_fault.ensures.failed in
    record {
      statuses = inr (inr refl);
      table = λ ran. absurd (ran refl);
      failed = λ failed. inr (
        c.in-Err-answer.fault,
        record {
          collected = by.collected;
          collects = by.collects;
          not_put = record {
            digests = digests;
            are_digests = of_gathered (λ sources fulls samplings times table n. AreDigestsOf g.S.Source.seen c.args.sources.items fulls digests) by.collected c.in-Ok.run'.gathered by.gathered c.in-Ok.ensures.digests;
            ends = not_put_of c.args.job.now c.args.origins.now digests (c.write_run-out.result.out ≡ c.args.to.out) c.in-Err-answer.fault by.collected c.in-Ok.run'.gathered by.gathered (search rules);
          };
        },
        c.hindrance_of.ensures,
        told,
      );
      refused = not_refused _ _ _ _ c.args.job.now.engine c.in-Ok.run' _ same c.in-Ok.ensures.faults;
    }

pub returns-clause-runs : goal.returns-clause-runs
returns-clause-runs g c =
    let same : vec_len c.args.sources ≡ length c.args.sources.items = search rules in
    let status = number_of c.status_of-status.result in
    let job = c.args.job.now in
    let given = in_noting_context job c.args.sources.items c.args.origins.now in
    let by = c.in-Ok.ensures.ok in
    let strict = job.verbosity.strict in
    let is_scaled = is_some job.estimates in
    let digests = c.in-Ok.run'.digests.items in
    let told = zero_if_well c.status_of-status.result status _ refl c.status_of-status.ensures.ends c.status_of-status.ensures.well in
    let well = of_gathered (λ sources fulls samplings times table n. (status ≡ 0) ↔ WentWell strict is_scaled fulls samplings table) by.collected c.in-Ok.run'.gathered by.gathered told in
    record {
      statuses = one_of_three c.status_of-status.result status refl c.status_of-status.ensures.ends;
      table = λ ran.
          writes_table g.S.Source.seen strict is_scaled job.plan.now job.engine status _ given by.collected by.collects well
          (λ zero. c.status_of-status.ensures.whole by.collected by.gathered given job.plan.now by.collects.headline (told.0 zero)) (
            tells_gathered g.W.Write.contents _ _ _ _ job c.args.origins.now by.collected c.in-Ok.run'.gathered by.gathered (search rules)
                (record { ended = c.tell.ensures.ended; are_ended = c.tell.ensures.are_ended; told = is_told _ _ _ c.tell.result _ c.tell.ensures.told.told c.tell.ensures.told.failed }),
            record {
              digests = digests;
              are_digests = of_gathered (λ sources fulls samplings times table n. AreDigestsOf g.S.Source.seen c.args.sources.items fulls digests) by.collected c.in-Ok.run'.gathered by.gathered c.in-Ok.ensures.digests;
              ends = put_of (g.P.ReceiptPlace.holds c.write_run-out.result.place) c.args.to.made job c.args.origins.now digests (g.W.Write.contents c.args.to.out) by.collected c.in-Ok.run'.gathered by.gathered (search rules);
            },
          );
      failed = never_three c.status_of-status.result status refl c.status_of-status.ensures.ends;
      refused = not_refused _ _ _ _ job.engine c.in-Ok.run' _ same c.in-Ok.ensures.faults;
    }

pub returns-in-Err-answer-clause-hindered : goal.returns-in-Err-answer-clause-hindered
returns-in-Err-answer-clause-hindered g c =
    let by = c.in-Ok.ensures.ok in
    let digests = c.in-Ok.run'.digests.items in
    hindered_of g.S.Source.seen c.args.sources.items c.args.job.now c.args.origins.now (c.write_run-out.result.out ≡ c.args.to.out) c.in-Err-answer.fault c.hindrance_of.result c.hindrance_of.ensures (record {
      collected = by.collected;
      collects = by.collects;
      not_put = record {
        digests = digests;
        are_digests = of_gathered (λ sources fulls samplings times table n. AreDigestsOf g.S.Source.seen c.args.sources.items fulls digests) by.collected c.in-Ok.run'.gathered by.gathered c.in-Ok.ensures.digests;
        ends = not_put_of c.args.job.now c.args.origins.now digests (c.write_run-out.result.out ≡ c.args.to.out) c.in-Err-answer.fault by.collected c.in-Ok.run'.gathered by.gathered (search rules);
      };
    })
