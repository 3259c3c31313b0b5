-- The report of a file of all messages of a session is that of the session.
use Rattle.std.proofs.Common.{◌≡◌, ℕ, List, [], ◌∷◌, length, map, refl, sym, ap, ◌∙◌, arith}
use Rattle.std.specs.Prelude.{sum_by}
use Rattle.std.proofs.lemmas.List.{length-append}
use Rattle.std.proofs.lemmas.List.Sums.{sum_by-cons}
use Rattle.ipfix_message.specs.Domains.{Message}
use Rattle.ipfix_message.specs.declared.passed_over.PassedOver.{PassedOver}
use Rattle.ipfix_session.specs.declared.report.FullReport.{FullReport}
use Rattle.ipfix_session.specs.Given.{records_in}
use Rattle.ipfix_session.specs.Ledger.{capped, count_in, lost_between, backward_between, sum_neighbours, messages_of, domains_of, domain_report}
use Rattle.ipfix_session.specs.Balances.{unaccounted_between, domain_balance}
use Rattle.recording_files.specs.declared.file_report.FileReport.{FileReport}
use Rattle.recording_files.specs.FileReports.{in_ledger, in_ledger_from, file_report}
use Rattle.recording_folder.specs.FullReports.{CountsAll}

-- a sum of numbers that stop stops as that of the numbers does
sum_stops : {X : Type 0} (report : ℕ → X) (field : X → ℕ) (e : ℕ → ℕ) → ((k : ℕ) → field (report k) ≡ capped (e k)) → (ks : List ℕ) → capped (sum_by field (map report ks)) ≡ capped (sum_by e ks)
sum_stops report field e is [] = refl
sum_stops report field e is (k ∷ ks) =
    let more = sum_stops report field e is ks in
    omega (arith, sum_by-cons field (report k) (map report ks), sum_by-cons e k ks, is k, more)

-- a ledger from its first message on
from_first : (f : Message → Message → ℕ) (ms : List Message) → in_ledger_from f [] ms ≡ in_ledger f ms
from_first f ms = omega arith

-- what all domains report adds up to it
all_domains : {X : Type 0} (f : Message → Message → ℕ) (report : ℕ → X) (field : X → ℕ) (ms : List Message) (reports : List X) (sum : ℕ) → sum ≡ capped (sum_by field reports) → reports ≡ map report (domains_of ms)
    → ((k : ℕ) → field (report k) ≡ capped (sum_neighbours f (messages_of k ms))) → sum ≡ capped (in_ledger_from f [] ms)
all_domains {X} f report field ms reports sum is are each =
    is ∙ ap (λ (rs : List X). capped (sum_by field rs)) are ∙ sum_stops report field (λ k. sum_neighbours f (messages_of k ms)) each (domains_of ms) ∙ ap capped (sym (from_first f ms))

count_records : (ms : List Message) → sum_by count_in ms ≡ length (records_in ms)
count_records [] = refl
count_records (m ∷ ms) = omega (arith, sum_by-cons count_in m ms, length-append m.decoding.records (records_in ms), count_records ms)

abbrev report : ℕ → ℕ → ℕ → ℕ → ℕ → ℕ → FileReport
report messages records lost backward unknown_sets unaccounted =
    record { messages = messages; records = records; lost = lost; backward = backward; unknown_sets = unknown_sets; unaccounted = unaccounted; ignored_withdrawals = 0 }

same_report : (a b c d e f g h i j k l : ℕ) → a ≡ g → b ≡ h → c ≡ i → d ≡ j → e ≡ k → f ≡ l → report a b c d e f ≡ report g h i j k l
same_report a b c d e f g h i j k l o p q r s t = rw (o, p, q, r, s, t) refl

pub report_is : (ms : List Message) (full : FullReport) (lost backward unaccounted : ℕ) → CountsAll full ms
    → lost ≡ capped (sum_by (λ d. d.lost) full.report.domains.items) → backward ≡ capped (sum_by (λ d. d.backward) full.report.domains.items)
    → unaccounted ≡ capped (sum_by (λ b. b.unaccounted) full.balances.items)
    → report full.report.messages full.report.delivered lost backward full.report.unknown_sets unaccounted ≡ file_report [] ms
unfolding file_report
report_is ms full lost backward unaccounted counts lost_is backward_is unaccounted_is =
    same_report _ _ _ _ _ _ _ _ _ _ _ _
    counts.reports.messages
    (counts.reports.delivered_is ∙ ap capped (sym (count_records ms)))
    (all_domains lost_between (domain_report ms) (λ d. d.lost) ms full.report.domains.items lost lost_is counts.reports.domains (λ k. refl))
    (all_domains backward_between (domain_report ms) (λ d. d.backward) ms full.report.domains.items backward backward_is counts.reports.domains (λ k. refl))
    (ap (λ (p : PassedOver). p.unknown_sets) counts.reports.passed_over)
    (all_domains unaccounted_between (domain_balance ms) (λ b. b.unaccounted) ms full.balances.items unaccounted unaccounted_is counts.balances (λ k. refl))
