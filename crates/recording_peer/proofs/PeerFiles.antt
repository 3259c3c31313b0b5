-- The datagrams and the files of a peer, one after another.
use Rattle.std.proofs.Common.{◌≡◌, arith, ℕ, List, [], ◌∷◌, ◌++◌, map, refl, sym, ap, ap₂, subst, ◌∙◌, append_assoc}
use Rattle.std.specs.Prelude.{◌≢◌, ◌+◌, sum_by}
use Rattle.std.specs.List.{flat_map}
use Rattle.std.proofs.lemmas.List.{append-nil, map-append}
use Rattle.std.proofs.lemmas.Grind.{flat_map-append}
use Rattle.std.proofs.lemmas.List.Sums.{sum_by_push}
use Rattle.ipfix_message.specs.Domains.{History, Message}
use Rattle.ipfix_message.specs.declared.record.DataRecord.{DataRecord}
use Rattle.ipfix_session.specs.Given.{known_after, octets_of, records_in}
use Rattle.ipfix_session.specs.Ledger.{capped}
use Rattle.recording_files.specs.declared.file_report.FileReport.{FileReport}
use Rattle.ipfix_session.proofs.Chains.{known-append, known_after-push}
use Rattle.ipfix_session.proofs.Giving.{records_in-append}
use Rattle.recording_files.specs.Recordings.{Recorded, Writes}
use Rattle.recording_files.specs.Faithful as faithful
use Rattle.recording_files.specs.Sessions.{file_octets}
use Rattle.recording_files.proofs.Going.{recorded-push}
use Rattle.ipfix_datagrams.specs.Datagrams.{IsTaken, withdrawals_in}
use Rattle.recording_peer.specs.Peers.{basis_with, Taken, AreTaken, HasFront, HaveFronts, PeerFile, datagrams, givens, known_after_all, messages_with, given_with, all_messages, all_given, part_of, sent_of, withdrawals_ignored, peer_report, peer_reports}
use Rattle.recording_peer.specs.Recording.{FiledDatagrams, IsLastFile, taken_before, taken_in, ignored_in, filed_with, finished_now, ignored_now, ignored_still, file_finished, taken_by_file, last_file}

-- ---- datagrams, one after another

pub givens-append : (ts us : List Taken) → givens (ts ++ us) ≡ givens ts ++ givens us
givens-append ts us = map-append (λ (t : Taken). t.given) ts us

pub all_given-append : (ts us : List Taken) → all_given (ts ++ us) ≡ all_given ts ++ all_given us
all_given-append ts us = flat_map-append given_with ts us

pub all_given-push : (ts : List Taken) (t : Taken) → all_given (ts ++ t ∷ []) ≡ all_given ts ++ given_with t
all_given-push ts t = all_given-append ts (t ∷ []) ∙ ap (λ (ms : List Message). all_given ts ++ ms) (append-nil (given_with t))

pub all_messages-push : (ts : List Taken) (t : Taken) → all_messages (ts ++ t ∷ []) ≡ all_messages ts ++ messages_with t
all_messages-push ts t = flat_map-append messages_with ts (t ∷ []) ∙ ap (λ (ms : List (List ℕ)). all_messages ts ++ ms) (append-nil (messages_with t))

pub taken-push : (ds : History) (ts : List Taken) (t : Taken) → AreTaken ds ts → IsTaken (basis_with t.resumed t.barred) (known_after ds (givens ts)) t.datagram t.preparation t.given → AreTaken ds (ts ++ t ∷ [])
taken-push ds [] t are is = (is, tt)
taken-push ds (u ∷ us) t are is = (are.0, taken-push u.given.domains us t are.1 is)

pub fronts-push : (before : List Message) (ts : List Taken) (t : Taken) → HaveFronts before ts → HasFront (before ++ all_given ts) t → HaveFronts before (ts ++ t ∷ [])
fronts-push before [] t have has = (subst (λ (b : List Message). HasFront b t) (append-nil before) has, tt)
fronts-push before (u ∷ us) t have has = (have.0, fronts-push (before ++ given_with u) us t have.1 (subst (λ (b : List Message). HasFront b t) (sym (append_assoc before (given_with u) (all_given us))) has))

-- all of them, one more
pub taken_in-push : (filed : FiledDatagrams) (t : Taken) → taken_in (filed_with filed t) ≡ taken_in filed ++ t ∷ []
taken_in-push filed t = sym (append_assoc (taken_before filed) filed.here (t ∷ []))

-- the same where a file is finished
abbrev pub all_finished : List (List Taken) → List Taken
all_finished finished = flat_map (λ ts. ts) finished

flat-push : (finished : List (List Taken)) (here : List Taken) → all_finished (finished ++ here ∷ []) ≡ all_finished finished ++ here
flat-push finished here = flat_map-append (λ (ts : List Taken). ts) finished (here ∷ []) ∙ ap (λ (ts : List Taken). all_finished finished ++ ts) (append-nil here)

flat-now : (finished : List (List Taken)) (here : List Taken) → all_finished (finished_now finished here) ≡ all_finished finished ++ here
flat-now finished [] = sym (append-nil (all_finished finished))
flat-now finished (t ∷ ts) = flat-push finished (t ∷ ts)

pub now_is : (finished : List (List Taken)) (here : List Taken) → here ≢ [] → finished_now finished here ≡ finished ++ here ∷ []
now_is finished [] some = absurd (some refl)
now_is finished (t ∷ ts) some = refl

pub before-finished : (filed : FiledDatagrams) → taken_before (file_finished filed) ≡ taken_in filed
before-finished filed = flat-now filed.finished filed.here

pub in-finished : (filed : FiledDatagrams) → taken_in (file_finished filed) ≡ taken_in filed
in-finished filed = append-nil (taken_before (file_finished filed)) ∙ before-finished filed

pub givens-finished : (filed : FiledDatagrams) → givens (taken_before (file_finished filed)) ≡ givens (taken_before filed) ++ givens filed.here
givens-finished filed = ap givens (before-finished filed) ∙ givens-append (taken_before filed) filed.here

pub all_given-finished : (filed : FiledDatagrams) → all_given (taken_before (file_finished filed)) ≡ all_given (taken_before filed) ++ all_given filed.here
all_given-finished filed = ap all_given (before-finished filed) ∙ all_given-append (taken_before filed) filed.here

-- ---- what stands in front of them leaves no trace

-- in the domains
known_in : (ds : History) (ts : List Taken) → known_after ds (all_given ts) ≡ known_after ds (givens ts)
known_in ds [] = refl
known_in ds (t ∷ ts) =
    known-append ds (given_with t) (all_given ts) ∙ ap (λ (k : History). known_after k (all_given ts)) (known_after-push ds t.front.given t.given) ∙ known_in t.given.domains ts

pub files_here : (filed : FiledDatagrams) → known_after_all (taken_in filed) ≡ known_after [] (all_given (taken_before filed) ++ all_given filed.here)
files_here filed = sym (ap (known_after []) (sym (all_given-append (taken_before filed) filed.here)) ∙ known_in [] (taken_in filed))

-- one more
pub known-push : (filed : FiledDatagrams) (t : Taken) → known_after_all (taken_in (filed_with filed t)) ≡ t.given.domains
known-push filed t = ap known_after_all (taken_in-push filed t) ∙ ap (known_after []) (givens-append (taken_in filed) (t ∷ [])) ∙ known_after-push [] (givens (taken_in filed)) t.given

-- and in the records
pub records_same : (before : List Message) (ts : List Taken) → HaveFronts before ts → records_in (all_given ts) ≡ records_in (givens ts)
records_same before [] have = refl
records_same before (t ∷ ts) have =
    ap records_in (append_assoc t.front.given (t.given ∷ []) (all_given ts)) ∙ records_in-append t.front.given (t.given ∷ all_given ts)
    ∙ ap₂ (λ (a b : List DataRecord). a ++ (t.given.decoding.records ++ b)) have.0.records (records_same (before ++ given_with t) ts have.1)

-- ---- files, one after another

-- what they gave
pub all_is : (fs : List PeerFile) → faithful.all_given (map part_of fs) ≡ all_given (all_finished (taken_by_file fs))
all_is [] = refl
all_is (f ∷ fs) = ap (λ (ms : List Message). all_given f.taken ++ ms) (all_is fs) ∙ sym (all_given-append f.taken (all_finished (taken_by_file fs)))

pub sent_is : (fs : List PeerFile) → faithful.all_given (map sent_of fs) ≡ givens (all_finished (taken_by_file fs))
sent_is [] = refl
sent_is (f ∷ fs) = ap (λ (ms : List Message). givens f.taken ++ ms) (sent_is fs) ∙ sym (givens-append f.taken (all_finished (taken_by_file fs)))

-- with one file more
pub all_with : (fs : List PeerFile) (filed : FiledDatagrams) (file : List (List ℕ)) → taken_by_file fs ≡ filed.finished
    → faithful.all_given (map part_of (fs ++ last_file filed file ∷ [])) ≡ all_given (taken_in filed)
all_with fs filed file are =
    let last = last_file filed file in
    all_is (fs ++ last ∷ []) ∙ ap (λ (tss : List (List Taken)). all_given (all_finished tss)) (map-append (λ (g : PeerFile). g.taken) fs (last ∷ []) ∙ ap (λ (tss : List (List Taken)). tss ++ filed.here ∷ []) are)
    ∙ ap all_given (flat-push filed.finished filed.here)

-- they are a recording
pub recorded_with : (fs : List PeerFile) (filed : FiledDatagrams) (file : List (List ℕ)) → taken_by_file fs ≡ filed.finished → Recorded [] (map part_of fs) → IsLastFile filed file
    → Recorded [] (map part_of (fs ++ last_file filed file ∷ []))
recorded_with fs filed file are earlier last =
    let before : faithful.all_given (map part_of fs) ≡ all_given (taken_before filed) = all_is fs ∙ ap (λ (tss : List (List Taken)). all_given (all_finished tss)) are in
    subst (Recorded []) (sym (map-append part_of fs (last_file filed file ∷ [])))
    (recorded-push [] (map part_of fs) (part_of (last_file filed file)) earlier (subst (λ (b : List Message). Writes b [] (all_messages filed.here) (all_given filed.here) file) (sym before) last))

-- the reports of one file more
pub peer_reports-push : (before : List Message) (fs : List PeerFile) (f : PeerFile)
    → peer_reports before (fs ++ f ∷ []) ≡ peer_reports before fs ++ peer_report (before ++ givens (all_finished (taken_by_file fs))) f.taken f.ignored ∷ []
peer_reports-push before [] f = ap (λ (b : List Message). peer_report b f.taken f.ignored ∷ []) (sym (append-nil before))
peer_reports-push before (g ∷ fs) f =
    ap (λ (rs : List FileReport). peer_report before g.taken g.ignored ∷ rs) (peer_reports-push (before ++ givens g.taken) fs f)
    ∙ ap (λ (b : List Message). peer_report before g.taken g.ignored ∷ (peer_reports (before ++ givens g.taken) fs ++ peer_report b f.taken f.ignored ∷ []))
    (append_assoc before (givens g.taken) (givens (all_finished (taken_by_file fs))) ∙ ap (λ (ms : List Message). before ++ ms) (sym (givens-append g.taken (all_finished (taken_by_file fs)))))

-- ---- what was ignored

pub ignored_is : (here : List Taken) (ignored : List (List (List ℕ))) (now : List (List ℕ)) → here ≢ [] → ignored_now here ignored now ≡ ignored ++ now ∷ []
ignored_is [] ignored now some = absurd (some refl)
ignored_is (t ∷ ts) ignored now some = refl

pub none_still : (here : List Taken) (now : List (List ℕ)) → here ≢ [] → ignored_still here now ≡ []
none_still [] now some = absurd (some refl)
none_still (t ∷ ts) now some = refl

-- all of it, where a file is finished
pub ignored-finished : (filed : FiledDatagrams) → ignored_in (file_finished filed) ≡ ignored_in filed
ignored-finished filed = by_here filed.here
  where
    by_here : (here : List Taken) → flat_map (λ (ms : List (List ℕ)). ms) (ignored_now here filed.ignored filed.ignored_here) ++ ignored_still here filed.ignored_here ≡ ignored_in filed
    by_here [] = refl
    by_here (t ∷ ts) =
        append-nil _ ∙ flat_map-append (λ (ms : List (List ℕ)). ms) filed.ignored (filed.ignored_here ∷ [])
        ∙ ap (λ (ms : List (List ℕ)). flat_map (λ (ms : List (List ℕ)). ms) filed.ignored ++ ms) (append-nil filed.ignored_here)

-- the withdrawals of one datagram more
pub withdrawals-taken : (ts : List Taken) (t : Taken) (ms : List (List ℕ)) (n : ℕ) → n ≡ capped (withdrawals_in t.datagram) → capped (capped (withdrawals_ignored ts ms) + n) ≡ capped (withdrawals_ignored (ts ++ t ∷ []) ms)
withdrawals-taken ts t ms n is =
    let more : sum_by withdrawals_in (datagrams (ts ++ t ∷ [])) ≡ sum_by withdrawals_in (datagrams ts) + withdrawals_in t.datagram =
    ap (sum_by withdrawals_in) (map-append (λ (u : Taken). u.datagram) ts (t ∷ [])) ∙ sum_by_push withdrawals_in (datagrams ts) t.datagram in
    omega (arith, more, is)

-- and of one that was ignored
pub withdrawals-ignored : (ts : List Taken) (ms : List (List ℕ)) (m : List ℕ) (n : ℕ) → n ≡ capped (withdrawals_in m) → capped (capped (withdrawals_ignored ts ms) + n) ≡ capped (withdrawals_ignored ts (ms ++ m ∷ []))
withdrawals-ignored ts ms m n is = omega (arith, sum_by_push withdrawals_in ms m, is)

-- the same octets
pub octets_same : (fs : List PeerFile) → map file_octets (map sent_of fs) ≡ map file_octets (map part_of fs)
octets_same [] = refl
octets_same (f ∷ fs) = ap (λ (ws : List (List ℕ)). octets_of f.file ∷ ws) (octets_same fs)
