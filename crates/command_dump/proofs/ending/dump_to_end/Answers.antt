use Rattle.std.proofs.Common.{Option, refl, inr, subst}
use Rattle.ipfix_dump.specs.Dumped.{line_in}
use Rattle.ipfix_dump.proofs.Writing.{dumps_all}
use Rattle.report_writing.proofs.Ended.{never_three, one_of_three, zero_if_well}
use Rattle.report_writing.proofs.LinesTold.{is_told}
use Rattle.report_writing.specs.Told.{AreToldTo}
use Rattle.report_writing.specs.declared.reason.Reason.{Reason}
use Rattle.command_dump.specs.Dumps.{dump_lines}
use Rattle.command_dump.proofs.FullDumped.{well_no_fault}
use Rattle.command_dump.proofs.ending.dump_to_end.Goals as goal

pub returns-in-Ok-clause-runs : goal.returns-in-Ok-clause-runs
returns-in-Ok-clause-runs g c =
    let well = zero_if_well c.end_of.result _ _ refl c.end_of.ensures.ends c.end_of.ensures.well in
    let tells = c.tell.ensures in
    let job = c.args.job.now in
    record {
      statuses = one_of_three c.end_of.result _ refl c.end_of.ensures.ends;
      all = λ zero.
          dumps_all g.S.Source.seen (line_in job.form c.args.elements.now) job.templates c.args.source.now c.dump_whole.new.source _ _ c.in-Ok.full.report (g.met.S.Source.ended_is_end c.dump_whole.new.source)
          c.in-Ok.ensures.dumps (well_no_fault job.verbosity.strict c.in-Ok.full (well.0 zero)) _ refl;
      dumped = λ ran. record {
        full = c.in-Ok.full;
        dumps = c.in-Ok.ensures;
        told = record { said = c.failure.result; is_said = c.failure.ensures; told = subst (λ (r : Option Reason). AreToldTo g.E.WriteLines.lines c.args.err.now c.tell.new.err (dump_lines job c.args.elements.now r c.in-Ok.full)) c.read_reason-reason.ensures (is_told _ _ _ c.tell.result _ tells.told tells.failed) };
        status_is = well;
      };
      failed = never_three c.end_of.result _ refl c.end_of.ensures.ends;
    }

pub returns-in-Err-clause-runs : goal.returns-in-Err-clause-runs
returns-in-Err-clause-runs g c =
    let tells = c.write_dump_fault.ensures in
    record {
      statuses = inr (inr refl);
      all = λ zero. absurd (cc zero);
      dumped = λ ran. absurd (ran refl);
      failed = λ is. (c.in-Err.fault, is_told _ _ _ c.write_dump_fault.result _ tells.told tells.failed);
    }
