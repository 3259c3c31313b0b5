-- The reports of a peer's files add up to that of its session.
use Rattle.std.proofs.Common.{◌≡◌, ℕ, List, [], ◌∷◌, ◌++◌, map, refl, sym, ap, ap₂, subst, ◌∙◌, inl, inr}
use Rattle.std.specs.Prelude.{◌+◌, sum_by}
use Rattle.std.proofs.lemmas.List.Sums.{sum_by-cons}
use Rattle.ipfix_session.specs.declared.report.FullReport.{FullReport}
use Rattle.std.proofs.lemmas.List.{map-append}
use Rattle.ipfix_message.specs.Domains.{Message}
use Rattle.recording_files.specs.declared.file_report.FileReport.{FileReport}
use Rattle.recording_files.specs.declared.recorded_session.RecordedSession.{RecordedSession}
use Rattle.recording_files.specs.Recordings.{Part}
use Rattle.recording_files.specs.Faithful.{all_given}
use Rattle.recording_files.specs.FileReports.{file_report, file_reports, AddsTo, AddUp}
use Rattle.recording_files.specs.Files.{Contents, FilesView}
use Rattle.recording_files.specs.Sessions.{IsTold}
use Rattle.recording_files.proofs.Adding.{adds_up}
use Rattle.recording_files.proofs.Going.{reports-push}
use Rattle.recording_peer.specs.declared.peer_session.PeerSession.{PeerSession}
use Rattle.recording_peer.specs.Peers.{Taken, PeerFile, sent_of, givens, peer_report, peer_reports}
use Rattle.recording_peer.specs.Recording.{PeerTold, FiledDatagrams, FilesHold, StopsAt, TurnedUnknown, CameAfter, IsPeerTold, Tells, ReportsAddUp, taken_before, taken_by_file, file_finished}
use Rattle.recording_peer.proofs.PeerFiles.{givens-append, all_finished, now_is}
use Rattle.recording_peer.proofs.FilesGive.{since_are}

-- the messages of a file, as a part of the session
abbrev part_with : List Taken → Part
part_with ts = record { messages = []; given = givens ts; file = [] }

abbrev reports_of : List (List Taken) → List FileReport
reports_of tss = file_reports [] (map part_with tss)

-- without the withdrawals that were ignored
abbrev plain : FileReport → FileReport
plain f = record f { ignored_withdrawals = 0 }

abbrev plain_session : RecordedSession → RecordedSession
plain_session r = record r { last = plain r.last }

plain_is : (before : List Message) (taken : List Taken) (ignored : List (List ℕ)) → plain (peer_report before taken ignored) ≡ file_report before (givens taken)
unfolding file_report
plain_is before taken ignored = refl

plain_reports : (before : List Message) (fs : List PeerFile) → map plain (peer_reports before fs) ≡ file_reports before (map sent_of fs)
plain_reports before [] = refl
plain_reports before (f ∷ fs) = ap₂ (λ (r : FileReport) (rs : List FileReport). r ∷ rs) (plain_is before f.taken f.ignored) (plain_reports (before ++ givens f.taken) fs)

-- so they are told
plain_told : (r : PeerSession) (filed : FiledDatagrams) → IsPeerTold r filed → IsTold (plain_session r.session) (givens (taken_before filed)) (givens filed.here)
plain_told r filed told = record {
  reported = record { session = told.session.session; no_domains = told.session.no_domains; fault = told.session.fault };
  last = ap plain told.last ∙ plain_is (givens (taken_before filed)) filed.here filed.ignored_here;
}

-- they change no sum
sum_plain : (field : FileReport → ℕ) → ((f : FileReport) → field (plain f) ≡ field f) → (rs : List FileReport) → sum_by field (map plain rs) ≡ sum_by field rs
sum_plain field same [] = refl
sum_plain field same (r ∷ rs) = sum_by-cons field (plain r) (map plain rs) ∙ ap₂ (λ (a b : ℕ). a + b) (same r) (sum_plain field same rs) ∙ sym (sum_by-cons field r rs)

from_plain : (rs : List FileReport) (session : FullReport) → AddUp (map plain rs) session → AddUp rs session
from_plain rs session a = record {
  messages = adds (λ f. f.messages) (λ f. refl) _ a.messages;
  records = adds (λ f. f.records) (λ f. refl) _ a.records;
  lost = adds (λ f. f.lost) (λ f. refl) _ a.lost;
  backward = adds (λ f. f.backward) (λ f. refl) _ a.backward;
  unknown_sets = adds (λ f. f.unknown_sets) (λ f. refl) _ a.unknown_sets;
  unaccounted = adds (λ f. f.unaccounted) (λ f. refl) _ a.unaccounted;
}
  where
    adds : (field : FileReport → ℕ) → ((f : FileReport) → field (plain f) ≡ field f) → (n : ℕ) → AddsTo (sum_by field (map plain rs)) n → AddsTo (sum_by field rs) n
    adds field same n h = subst (λ (s : ℕ). AddsTo s n) (sum_plain field same rs) h

-- a report tells of the messages alone
reports_same : (before : List Message) (fs : List PeerFile) → file_reports before (map sent_of fs) ≡ file_reports before (map part_with (taken_by_file fs))
reports_same before [] = refl
reports_same before (f ∷ fs) = ap (λ (rs : List FileReport). file_report before (givens f.taken) ∷ rs) (reports_same (before ++ givens f.taken) fs)

all_given_with : (tss : List (List Taken)) → all_given (map part_with tss) ≡ givens (all_finished tss)
all_given_with [] = refl
all_given_with (ts ∷ tss) = ap (λ (ms : List Message). givens ts ++ ms) (all_given_with tss) ∙ sym (givens-append ts (all_finished tss))

all_reports : (filed : FiledDatagrams) (r : RecordedSession) → IsTold r (givens (taken_before filed)) (givens filed.here) → AddUp (reports_of filed.finished ++ r.last ∷ []) r.report
all_reports filed r told = adds_up (map part_with filed.finished) (part_with filed.here) r (subst (λ (ms : List Message). IsTold r ms (givens filed.here)) (sym (all_given_with filed.finished)) told)

-- the reports that were given
given_with : (first after : FilesView) (since : Contents) (filed : FiledDatagrams) (cut_off : List ℕ) → FilesHold first after filed cut_off → CameAfter first after since → map plain since.reports ≡ reports_of filed.finished
given_with first after since filed cut_off h came = ap (map plain) (since_are first after since filed cut_off h came).1 ∙ plain_reports [] h.files ∙ reports_same [] h.files ∙ ap reports_of h.are

pub adds_to_session : (first after : FilesView) (since : Contents) (filed : FiledDatagrams) (cut_off : List ℕ) (r : PeerSession) → FilesHold first after filed cut_off → IsPeerTold r filed → CameAfter first after since → ReportsAddUp since.reports r
adds_to_session first after since filed cut_off r h told came =
    let all = map-append plain since.reports (r.session.last ∷ []) ∙ ap (λ (rs : List FileReport). rs ++ plain r.session.last ∷ []) (given_with first after since filed cut_off h came) in
    from_plain (since.reports ++ r.session.last ∷ []) r.session.report
    (subst (λ (rs : List FileReport). AddUp rs r.session.report) (sym all) (all_reports filed (plain_session r.session) (plain_told r filed told)))

pub stops_adds : (first after : FilesView) (since : Contents) (c : PeerTold) (filed : FiledDatagrams) (m : List ℕ) (r : PeerSession) → StopsAt first after c filed m → Tells c r → CameAfter first after since → ReportsAddUp since.reports r
stops_adds first after since c filed m r s tells came = elim s.there [
  | inl h ↦ adds_to_session first after since filed [] r h (tells filed s.counted) came
  | inr k ↦ adds_to_session first after since filed k.cut_off r k.holds (tells filed s.counted) came
]

-- the last of the reports that were given is the one that is reported
given_last : (filed : FiledDatagrams) (r : RecordedSession) → IsTold r (givens (taken_before filed)) (givens filed.here) → reports_of (filed.finished ++ filed.here ∷ []) ≡ reports_of filed.finished ++ r.last ∷ []
given_last filed r told =
    ap (λ (ps : List Part). file_reports [] ps) (map-append part_with filed.finished (filed.here ∷ [])) ∙ reports-push [] (map part_with filed.finished) (part_with filed.here)
    ∙ ap (λ (ms : List Message). reports_of filed.finished ++ file_report ms (givens filed.here) ∷ []) (all_given_with filed.finished) ∙ ap (λ (f : FileReport). reports_of filed.finished ++ f ∷ []) (sym told.last)

pub turned_adds : (first after : FilesView) (since : Contents) (c : PeerTold) (filed : FiledDatagrams) (r : PeerSession) → TurnedUnknown first after c filed → Tells c r → CameAfter first after since → AddUp since.reports r.session.report
turned_adds first after since c filed r t tells came =
    let told = plain_told r filed (tells filed t.counted) in
    from_plain since.reports r.session.report
    (subst (λ (rs : List FileReport). AddUp rs r.session.report)
    (sym (given_with first after since (file_finished filed) [] t.holds came ∙ ap reports_of (now_is filed.finished filed.here t.some) ∙ given_last filed (plain_session r.session) told))
    (all_reports filed (plain_session r.session) told))
