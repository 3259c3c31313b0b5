-- The report of a file: what the exporter sent in its messages. Those of preambles are not among them.
use Rattle.std.specs.Prelude.{◌≡◌, ℕ, ◌-◌, ◌^◌, ◌<◌, List, [], ◌∷◌, ◌++◌, length, sum_by}
use Rattle.ipfix_message.specs.Domains.{Message}
use Rattle.ipfix_session.specs.Ledger.{capped, count_in, lost_between, backward_between, sum_neighbours, messages_of, domains_of}
use Rattle.ipfix_session.specs.Balances.{unaccounted_between}
use Rattle.ipfix_session.specs.declared.report.FullReport.{FullReport}
use Rattle.recording_files.specs.declared.file_report.FileReport.{FileReport}
use Rattle.recording_files.specs.Recordings.{Part}

-- what the ledger of messages adds up between each two neighbours of a domain, over all their domains
abbrev pub in_ledger : (Message → Message → ℕ) → List Message → ℕ
in_ledger f ms = sum_by (λ domain. sum_neighbours f (messages_of domain ms)) (domains_of ms)

-- how far that goes on from after messages to the end of those that follow them
abbrev pub in_ledger_from : (Message → Message → ℕ) → List Message → List Message → ℕ
in_ledger_from f before here = in_ledger f (before ++ here) - in_ledger f before

-- the report of a file of these messages, where those before are of earlier files, and no withdrawal was ignored
unfoldable pub file_report : List Message → List Message → FileReport
file_report before here = record {
  messages = capped (length here);
  records = capped (sum_by count_in here);
  lost = capped (in_ledger_from lost_between before here);
  backward = capped (in_ledger_from backward_between before here);
  unknown_sets = capped (sum_by (λ m. m.decoding.passed_over.unknown_sets) here);
  unaccounted = capped (in_ledger_from unaccounted_between before here);
  ignored_withdrawals = 0;
}

-- the reports of files in turn
abbrev pub file_reports : List Message → List Part → List FileReport
file_reports before [] = []
file_reports before (p ∷ ps) = file_report before p.given ∷ file_reports (before ++ p.given) ps

-- ---- files and their session

-- a sum of what files report is what the session does, if it has not stopped
abbrev pub AddsTo : ℕ → ℕ → Type 0
AddsTo sum n = sum < 2 ^ 64 - 1 → sum ≡ n

-- the reports of files add up to that of their session, in all its domains
pub record AddUp (files : List FileReport) (session : FullReport) : Type 0 where
  pub messages : AddsTo (sum_by (λ f. f.messages) files) session.report.messages
  pub records : AddsTo (sum_by (λ f. f.records) files) session.report.delivered
  pub lost : AddsTo (sum_by (λ f. f.lost) files) (sum_by (λ d. d.lost) session.report.domains.items)
  pub backward : AddsTo (sum_by (λ f. f.backward) files) (sum_by (λ d. d.backward) session.report.domains.items)
  pub unknown_sets : AddsTo (sum_by (λ f. f.unknown_sets) files) session.report.unknown_sets
  pub unaccounted : AddsTo (sum_by (λ f. f.unaccounted) files) (sum_by (λ b. b.unaccounted) session.balances.items)
