use Rattle.std.proofs.Common.{List, ap, ◌∙◌}
use Rattle.std.specs.Prelude.{sum_by}
use Rattle.ipfix_session.specs.declared.report.DomainBalance.{DomainBalance}
use Rattle.ipfix_session.specs.declared.report.DomainReport.{DomainReport}
use Rattle.ipfix_session.specs.Ledger.{capped}
use Rattle.recording_folder.proofs.FullReports.{report_is}
use Rattle.recording_folder.proofs.full_reports.report_of.Goals as goal

pub returns : goal.returns
returns c = λ ms counts.
    report_is ms c.args.full.now c.lost_in.result c.backward_in.result c.unaccounted_in.result counts
    (c.lost_in.ensures ∙ ap (λ (ds : List DomainReport). capped (sum_by (λ d. d.lost) ds)) c.deref.ensures.value)
    (c.backward_in.ensures ∙ ap (λ (ds : List DomainReport). capped (sum_by (λ d. d.backward) ds)) c.deref-2.ensures.value)
    (c.unaccounted_in.ensures ∙ ap (λ (bs : List DomainBalance). capped (sum_by (λ b. b.unaccounted) bs)) c.deref-3.ensures.value)
