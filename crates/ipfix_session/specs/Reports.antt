-- The report of a session.
use Rattle.std.specs.Prelude.{◌≡◌, ℕ, List, [], ◌∷◌, length, map, sum_by, Option, Some, None}
use Rattle.ipfix_message.specs.Domains.{Message}
use Rattle.ipfix_message.specs.declared.passed_over.PassedOver.{PassedOver}
use Rattle.ipfix_session.specs.declared.report.SessionReport.{SessionReport}
use Rattle.ipfix_session.specs.declared.fault.SessionFault.{SessionFault}
use Rattle.ipfix_session.specs.declared.fault.SessionFault.TheVariants.{Truncated}
use Rattle.ipfix_session.specs.Given.{IsToldOf}
use Rattle.ipfix_session.specs.Ledger.{capped, domains_of, domain_report}
use Rattle.ipfix_session.specs.Faults.{end_within}

-- what messages passed over (RFC 7011, sections 3.3.2, 8.1 and 9)
abbrev pub passed_over_in : List Message → PassedOver
passed_over_in ms = record {
  skipped_sets = capped (sum_by (λ m. m.decoding.passed_over.skipped_sets) ms);
  unknown_sets = capped (sum_by (λ m. m.decoding.passed_over.unknown_sets) ms);
  ignored_withdrawals = capped (sum_by (λ m. m.decoding.passed_over.ignored_withdrawals) ms);
}

-- what a report says was passed over
abbrev pub passed_over_reported : SessionReport → PassedOver
passed_over_reported r = record { skipped_sets = r.skipped_sets; unknown_sets = r.unknown_sets; ignored_withdrawals = r.ignored_withdrawals }

-- a report is of these messages, and of that many records that were taken
pub record Reports (r : SessionReport) (ms : List Message) (delivered : ℕ) : Type 0 where
  pub messages : r.messages ≡ capped (length ms)
  pub delivered_is : r.delivered ≡ capped delivered
  pub passed_over : passed_over_reported r ≡ passed_over_in ms
  pub domains : r.domains.items ≡ map (domain_report ms) (domains_of ms)

-- the report of a whole text, whose templates may count so much, or anything: its messages before the first with a fault,
-- all their records, and the fault that it ends with
pub record IsReportWithin (limit : Option ℕ) (r : SessionReport) (text : List ℕ) : Type 0 where
  pub reports : IsToldOf (Reports r) limit text
  pub fault : r.fault ≡ end_within limit text

abbrev pub IsReport : SessionReport → List ℕ → Type 0
IsReport r text = IsReportWithin None r text

-- the fault of a session at its end: the one that it has, or that octets of a message are left
abbrev pub ended_by : Option SessionFault → List ℕ → Option SessionFault
ended_by (Some fault) rest = Some fault
ended_by None [] = None
ended_by None (octet ∷ rest) = Some Truncated
