-- The reports of files add up to that of their session.
use Rattle.std.proofs.Common.{◌≡◌, ℕ, ◌+◌, ◌<◌, List, [], ◌∷◌, ◌++◌, length, map, refl, sym, ap, subst, ◌∙◌, append_assoc, arith}
use Rattle.std.specs.Prelude.{◌-◌, ◌^◌, None, Option, sum_by}
use Rattle.std.proofs.lemmas.List.{append-nil, length-append}
use Rattle.std.proofs.lemmas.List.Sums.{sum_by-cons, sum_by-append}
use Rattle.ipfix_message.specs.Domains.{Message}
use Rattle.ipfix_message.specs.declared.passed_over.PassedOver.{PassedOver}
use Rattle.ipfix_session.specs.Given.{records_in}
use Rattle.ipfix_session.specs.Ledger.{capped, count_in, due_after, unsure_after, lost_at, backward_at, lost_between, backward_between, sum_neighbours, messages_of, domains_of, domain_report}
use Rattle.ipfix_session.specs.Balances.{unaccounted_between, domain_balance}
use Rattle.recording_files.specs.declared.file_report.FileReport.{FileReport}
use Rattle.recording_files.specs.declared.recorded_session.RecordedSession.{RecordedSession}
use Rattle.recording_files.specs.FileReports.{in_ledger, in_ledger_from, file_report, file_reports, AddsTo, AddUp}
use Rattle.recording_files.specs.Recordings.{Part}
use Rattle.recording_files.specs.Faithful.{all_given}
use Rattle.recording_files.specs.Files.{Contents, FilesView, AreSeen}
use Rattle.recording_files.specs.Sessions.{Progress, parts, HoldsSome, IsTold}
use Rattle.recording_files.proofs.FileCounts.{in_ledger-grows}
use Rattle.recording_files.proofs.Going.{whole, all_given-parts, reports-push}
use Rattle.recording_files.proofs.FilesGive.{contents_are}

abbrev most : ℕ
most = 2 ^ 64 - 1

-- ---- sums of numbers that stop

-- a sum of numbers that stop, which has not stopped, is that of the numbers
sum_map : {X : Type 0} (report : ℕ → X) (field : X → ℕ) (e : ℕ → ℕ) → ((k : ℕ) → field (report k) ≡ capped (e k)) → (ks : List ℕ) → sum_by e ks < most → sum_by field (map report ks) ≡ sum_by e ks
sum_map report field e is [] less = refl
sum_map report field e is (k ∷ ks) less =
    let here = sum_by-cons e k ks in
    let more = sum_map report field e is ks (omega (arith, here, less)) in
    omega (arith, sum_by-cons field (report k) (map report ks), here, is k, more, less)

module _ (field : FileReport → ℕ) (g : List Message → List Message → ℕ) (is : (before here : List Message) → field (file_report before here) ≡ capped (g before here)) (total : List Message → ℕ)
    (none : total [] ≡ 0) (goes : (before here : List Message) → g before here + total before ≡ total (before ++ here)) where
  -- what files add, from after those before
  adds_from : (before : List Message) (ps : List Part) → sum_by field (file_reports before ps) < most → sum_by field (file_reports before ps) + total before ≡ total (before ++ all_given ps)
  adds_from before [] less = let same : total before ≡ total (before ++ []) = ap total (sym (append-nil before)) in omega (arith, same)
  adds_from before (p ∷ ps) less =
      let cons = sum_by-cons field (file_report before p.given) (file_reports (before ++ p.given) ps) in
      let more = adds_from (before ++ p.given) ps (omega (arith, cons, less)) in
      let same : total ((before ++ p.given) ++ all_given ps) ≡ total (before ++ (p.given ++ all_given ps)) = ap total (append_assoc before p.given (all_given ps)) in
      omega (arith, cons, is before p.given, less, goes before p.given, more, same)

  adds_total : (finished : List Part) (last : Part) → sum_by field (file_reports [] (parts finished last)) < most → sum_by field (file_reports [] (parts finished last)) ≡ total (whole finished last)
  adds_total finished last less =
      let all = adds_from [] (parts finished last) less in
      let same : total (all_given (parts finished last)) ≡ total (whole finished last) = ap total (all_given-parts finished last) in
      omega (arith, all, none, same)

-- ---- each number

length_goes : (before here : List Message) → length here + length before ≡ length (before ++ here)
length_goes before here = omega (arith, length-append before here)

sum_goes : (f : Message → ℕ) (before here : List Message) → sum_by f here + sum_by f before ≡ sum_by f (before ++ here)
sum_goes f before here = omega (arith, sum_by-append f before here)

module _ (f : Message → Message → ℕ) (after : Message → Option ℕ) (g : Option ℕ → ℕ → ℕ) (none : (n : ℕ) → g None n ≡ 0) (is : (m n : Message) → f m n ≡ g (after m) n.header.sequence) where
  ledger_goes : (before here : List Message) → in_ledger_from f before here + in_ledger f before ≡ in_ledger f (before ++ here)
  ledger_goes before here = omega (arith, in_ledger-grows f after g none is before here)

messages_is : (before here : List Message) → (file_report before here).messages ≡ capped (length here)
unfolding file_report
messages_is before here = refl

records_is : (before here : List Message) → (file_report before here).records ≡ capped (sum_by count_in here)
unfolding file_report
records_is before here = refl

lost_is : (before here : List Message) → (file_report before here).lost ≡ capped (in_ledger_from lost_between before here)
unfolding file_report
lost_is before here = refl

backward_is : (before here : List Message) → (file_report before here).backward ≡ capped (in_ledger_from backward_between before here)
unfolding file_report
backward_is before here = refl

unknown_is : (before here : List Message) → (file_report before here).unknown_sets ≡ capped (sum_by (λ m. m.decoding.passed_over.unknown_sets) here)
unfolding file_report
unknown_is before here = refl

unaccounted-capped : (before here : List Message) → (file_report before here).unaccounted ≡ capped (in_ledger_from unaccounted_between before here)
unfolding file_report
unaccounted-capped before here = refl

-- a number of the session, which stops
not_stopped : (sum n total : ℕ) → n ≡ capped total → (sum < most → sum ≡ total) → AddsTo sum n
not_stopped sum n total is all = λ less. omega (arith, is, all less, less)

count_records : (ms : List Message) → sum_by count_in ms ≡ length (records_in ms)
count_records [] = refl
count_records (m ∷ ms) = omega (arith, sum_by-cons count_in m ms, length-append m.decoding.records (records_in ms), count_records ms)

-- and one of its domains
all_domains : {X : Type 0} (f : Message → Message → ℕ) (report : ℕ → X) (field : X → ℕ) (ms : List Message) (reports : List X) (sum : ℕ) → reports ≡ map report (domains_of ms)
    → ((k : ℕ) → field (report k) ≡ capped (sum_neighbours f (messages_of k ms))) → (sum < most → sum ≡ in_ledger f ms) → AddsTo sum (sum_by field reports)
all_domains f report field ms reports sum are is all = λ less.
    let e = λ (k : ℕ). sum_neighbours f (messages_of k ms) in
    let total : sum ≡ sum_by e (domains_of ms) = all less in
    total ∙ sym (ap (sum_by field) are ∙ sum_map report field e is (domains_of ms) (omega (arith, total, less)))

-- ---- all of them

pub adds_up : (finished : List Part) (last : Part) (r : RecordedSession) → IsTold r (all_given finished) last.given → AddUp (file_reports [] finished ++ r.last ∷ []) r.report
adds_up finished last r told =
    let ms = whole finished last in
    let session = told.reported.session.reports in
    let same : file_reports [] finished ++ r.last ∷ [] ≡ file_reports [] (parts finished last) =
    ap (λ (f : FileReport). file_reports [] finished ++ f ∷ []) told.last ∙ sym (reports-push [] finished last) in
    let all : AddUp (file_reports [] (parts finished last)) r.report = record {
      messages = not_stopped _ _ (length ms) session.messages (adds_total (λ f. f.messages) (λ before here. length here) messages_is (λ xs. length xs) refl length_goes finished last);
      records = not_stopped _ _ (length (records_in ms)) session.delivered_is
          (λ less. adds_total (λ f. f.records) (λ before here. sum_by count_in here) records_is (λ xs. sum_by count_in xs) refl (sum_goes count_in) finished last less ∙ count_records ms);
      lost = all_domains lost_between (domain_report ms) (λ d. d.lost) ms r.report.report.domains.items _ session.domains (λ k. refl)
          (adds_total (λ f. f.lost) (in_ledger_from lost_between) lost_is (in_ledger lost_between) refl (ledger_goes lost_between due_after lost_at (λ n. refl) (λ x y. refl)) finished last);
      backward = all_domains backward_between (domain_report ms) (λ d. d.backward) ms r.report.report.domains.items _ session.domains (λ k. refl)
          (adds_total (λ f. f.backward) (in_ledger_from backward_between) backward_is (in_ledger backward_between) refl (ledger_goes backward_between due_after backward_at (λ n. refl) (λ x y. refl)) finished last);
      unknown_sets = not_stopped _ _ (sum_by (λ (m : Message). m.decoding.passed_over.unknown_sets) ms) (ap (λ (p : PassedOver). p.unknown_sets) session.passed_over)
          (adds_total (λ f. f.unknown_sets) (λ before here. sum_by (λ (m : Message). m.decoding.passed_over.unknown_sets) here) unknown_is (λ xs. sum_by (λ (m : Message). m.decoding.passed_over.unknown_sets) xs) refl
          (sum_goes (λ (m : Message). m.decoding.passed_over.unknown_sets)) finished last);
      unaccounted = all_domains unaccounted_between (domain_balance ms) (λ b. b.unaccounted) ms r.report.balances.items _ told.reported.session.balances (λ k. refl)
          (adds_total (λ f. f.unaccounted) (in_ledger_from unaccounted_between) unaccounted-capped (in_ledger unaccounted_between) refl (ledger_goes unaccounted_between unsure_after lost_at (λ n. refl) (λ x y. refl)) finished last);
    } in
    subst (λ (fs : List FileReport). AddUp fs r.report) (sym same) all

-- the same of what files tell
pub files_add_up : (p : Progress) (after : FilesView) (start now : Contents) (r : RecordedSession) → HoldsSome (IsTold r) p after → AreSeen p.first after start now → start.reports ≡ [] → AddUp (now.reports ++ r.last ∷ []) r.report
files_add_up p after start now r h seen none =
    let t = contents_are p.first.contents after.contents start now (file_reports [] h.holds.finished) h.holds.finished h.holds.last [] seen.at_first seen.at_last h.holds.stands in
    let reports : now.reports ≡ file_reports [] h.holds.finished = t.1 ∙ ap (λ (fs : List FileReport). fs ++ file_reports [] h.holds.finished) none in
    subst (λ (fs : List FileReport). AddUp (fs ++ r.last ∷ []) r.report) (sym reports) (adds_up h.holds.finished h.holds.last r h.tells)
