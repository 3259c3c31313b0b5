use Rattle.std.proofs.Common.{Option, Some, None, cond, ap, ◌∙◌}
use Rattle.ipfix_session.specs.declared.fault.SessionFault.{SessionFault}
use Rattle.ipfix_session.specs.Faults.{ends_open}
use Rattle.ipfix_session.specs.Reports.{ended_by}
use Rattle.ipfix_session.proofs.Reaching.{ended}
use Rattle.recording_resumption.proofs.Reading.{in_full}
use Rattle.recording_resumption.proofs.earlier_reading.EarlierReading.finish.Goals as goal

pub returns : goal.returns
returns c = λ text has.
    let ends = c.fault_at_end-fault.ensures ∙ ap (ended_by c.args.self.fault) c.deref.ensures.value ∙ ended None _ text has.session in
    let counts = c.into_report.ensures.counts _ _ has.session.tells in
    let fault = c.into_report.ensures.fault ∙ ends in
    let domains = c.into_report.ensures.domains ∙ c.in_force_after-in_force.ensures ∙ ap (λ (o : Option SessionFault). cond (ends_open o) (Some c.args.self.messages.domains) None) ends in
    record { reports = in_full c.args.self text c.into_report.result has counts fault domains; fault = fault; last = has.counted.last }
