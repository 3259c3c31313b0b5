-- A peer while its datagrams are recorded.
use Rattle.std.proofs.Common.{◌≡◌, ℕ, List, [], ◌∷◌, ◌++◌, length, map, None, refl, sym, ap, ap₂, subst, ◌∙◌}
use Rattle.std.specs.Prelude.{◌+◌, All}
use Rattle.std.specs.Option.{option_to_list}
use Rattle.std.proofs.lemmas.Grind.{flat_map-append}
use Rattle.std.proofs.lemmas.List.{append-nil, map-append}
use Rattle.std.proofs.lemmas.List.Elements.{All-nil, All-push}
use Rattle.ipfix_message.specs.Domains.{DomainsView, History, Message, StandsFor}
use Rattle.ipfix_session.specs.Given.{known_after, octets_of}
use Rattle.ipfix_session.specs.Ledger.{capped}
use Rattle.ipfix_session.proofs.MessagesTaken.{octets-append}
use Rattle.recording_files.specs.declared.message_count.MessageCount.{MessageCount}
use Rattle.recording_files.specs.declared.file_report.FileReport.{FileReport}
use Rattle.recording_files.specs.Files.{FilesView, IsEmpty, with_more, with_next}
use Rattle.recording_files.specs.Recordings.{Part, Writes}
use Rattle.recording_files.specs.Recorders.{State, Keeps, Counted}
use Rattle.recording_files.specs.Sessions.{StandsWith, parts}
use Rattle.recording_files.proofs.Growing.{writes-append}
use Rattle.recording_files.proofs.Going.{empty_part, stands_first, stands_more, stands_next}
use Rattle.ipfix_datagrams.specs.Datagrams.{Fits, preparation_of, Represents, IsTaken, withdrawals_in}
use Rattle.ipfix_datagrams.specs.Reaches.{reaches_of}
use Rattle.ipfix_datagrams.specs.declared.reading.DatagramReading.{DatagramReading}
use Rattle.recording_peer.specs.Peers.{Resumed, Taken, basis_with, AreResumed, resumed_after, AreTaken, HasFront, HaveFronts, PeerFile, givens, known_after_all, messages_with, given_with, all_messages, all_given, sent_of, withdrawals_ignored, peer_report, peer_reports, resumption_in, resumption_of, resumptions}
use Rattle.recording_peer.specs.Late.{never, times_of}
use Rattle.recording_peer.specs.declared.resumption.Resumption.{Resumption}
use Rattle.recording_peer.specs.Recording.{BarsOnce, KnownShown, PeerTold, PeerView, FiledDatagrams, counted_report, none_filed, taken_before, taken_in, taken_by_file, filed_with, with_ignored, finished_now, ignored_now, ignored_still, file_finished, last_file, HasDatagram, IsLastFile, FilesHold, Counts, KeepsListed, KeepsLeft, LeftShown, left_listed, times_shown, IsPeer}
use Rattle.recording_peer.specs.Fronts.{TookDatagram, taken_as}
use Rattle.std.specs.BTreeMap.{BTreeMap}
use Rattle.recording_resumption.specs.declared.earlier_domain.EarlierDomain.{EarlierDomain}
use Rattle.recording_peer.proofs.Leaving.{are_resumed, left_as_listed}
use Rattle.recording_peer.proofs.PeerFiles.{files_here, givens-append, all_given-append, all_given-push, all_messages-push, taken-push, fronts-push, taken_in-push, all_finished, now_is, in-finished, givens-finished, all_given-finished, known-push, peer_reports-push, ignored_is, none_still, withdrawals-taken, withdrawals-ignored, recorded_with}

-- ---- the first file

pub peer_first : (v : FilesView) (s : PeerView) → IsEmpty v.contents → s.ended ≡ None → Keeps s.recorder [] [] → Counted s.told.counts [] [] → s.told.ignored ≡ 0 → s.told.advances ≡ [] → s.told.resumed ≡ [] → KeepsListed s.known.withdrawn [] → Fits s.known.budget s.known.weights [] → BarsOnce s.known → times_shown s.known ≡ never → (earlier : BTreeMap ℕ EarlierDomain) → s.earlier ≡ left_listed earlier.entries → IsPeer v v s (none_filed earlier)
peer_first v s empty on keeps counted nor none none_resumed withdrawn fits once times earlier left = record {
  holds = record {
    taken = tt;
    resumed = tt;
    fronts = tt;
    some = All-nil HasDatagram;
    files = [];
    are = refl;
    ignored = refl;
    earlier = tt;
    file = [];
    last = refl;
    stands = stands_first v.contents empty;
  };
  not_failed = refl;
  goes_on = on;
  counted = record { counted = counted; ignored = nor; noted = none; resumed = none_resumed };
  keeps = keeps;
  withdrawn = withdrawn;
  fits = fits;
  once = once;
  left = subst (λ (es : List (ℕ × LeftShown)). KeepsLeft es earlier []) (sym left) (left_as_listed earlier earlier [] (record { at = λ domain. refl }));
  times = times;
}

-- ---- what it represents

-- by its view, in place of it
pub inside_of : {first v : FilesView} {s t : PeerView} {filed : FiledDatagrams} → t ≡ s → IsPeer first v s filed → IsPeer first v t filed
inside_of {first} {v} {s} {t} {filed} same p = subst (λ (u : PeerView). IsPeer first v u filed) (sym same) p

-- its domains are those after the datagrams
pub represents : {first v : FilesView} {s : PeerView} {filed : FiledDatagrams} (d : DomainsView) → IsPeer first v s filed → d ≡ s.recorder.domains → Represents d (known_after_all (taken_in filed))
represents {first} {v} {s} {filed} d p same = record {
  fresh = ap (λ (k : DomainsView). k.spent) same ∙ p.keeps.not_spent;
  stands = subst (λ (ds : History). StandsFor d.domains ds) (sym (files_here filed))
      (subst (λ (k : DomainsView). StandsFor k.domains (known_after [] (all_given (taken_before filed) ++ all_given filed.here))) (sym same) p.keeps.known);
}

-- ---- the next file

-- what is counted of the file is what is to be told of it
pub last_reported : (c : PeerTold) (filed : FiledDatagrams) → Counts c filed → counted_report c ≡ peer_report (givens (taken_before filed)) filed.here filed.ignored_here
last_reported c filed counted = ap₂ (λ (f : FileReport) (n : ℕ). record f { ignored_withdrawals = n }) counted.counted.file counted.ignored

reported : (first v : FilesView) (filed : FiledDatagrams) (c : PeerTold) (h : FilesHold first v filed []) → Counts c filed → counted_report c ≡ peer_report (givens (all_finished (taken_by_file h.files))) filed.here filed.ignored_here
reported first v filed c h counted =
    last_reported c filed counted ∙ ap (λ (tss : List (List Taken)). peer_report (givens (all_finished tss)) filed.here filed.ignored_here) (sym h.are)

-- it is finished
pub holds_turned : (first v after : FilesView) (filed : FiledDatagrams) (c : PeerTold) → FilesHold first v filed [] → Counts c filed → HasDatagram filed.here → after.contents ≡ (with_next v (counted_report c)).contents
    → FilesHold first after (file_finished filed) []
holds_turned first v after filed c h counted some is =
    let last = last_file filed h.file in
    let now = now_is filed.finished filed.here some in
    record {
      taken = subst (AreTaken []) (sym (in-finished filed)) h.taken;
      resumed = subst (AreResumed filed.earlier []) (sym (in-finished filed)) h.resumed;
      fronts = subst (HaveFronts []) (sym (in-finished filed)) h.fronts;
      some = subst (λ (tss : List (List Taken)). All HasDatagram tss) (sym now) (All-push HasDatagram filed.finished filed.here h.some some);
      files = h.files ++ last ∷ [];
      are = map-append (λ (f : PeerFile). f.taken) h.files (last ∷ []) ∙ ap (λ (tss : List (List Taken)). tss ++ filed.here ∷ []) h.are ∙ sym now;
      ignored = map-append (λ (f : PeerFile). f.ignored) h.files (last ∷ []) ∙ ap (λ (mss : List (List (List ℕ))). mss ++ filed.ignored_here ∷ []) h.ignored ∙ sym (ignored_is filed.here filed.ignored filed.ignored_here some);
      earlier = recorded_with h.files filed h.file h.are h.earlier h.last;
      file = [];
      last = refl;
      stands = subst (λ (ps : List Part). StandsWith (peer_reports [] (h.files ++ last ∷ [])) first.contents after.contents ps empty_part []) (sym (map-append sent_of h.files (last ∷ [])))
          (subst (λ (rs : List FileReport). StandsWith rs first.contents after.contents (parts (map sent_of h.files) (sent_of last)) empty_part [])
          (ap (λ (r : FileReport). peer_reports [] h.files ++ r ∷ []) (reported first v filed c h counted) ∙ sym (peer_reports-push [] h.files last))
          (stands_next first.contents v.contents after.contents (peer_reports [] h.files) (map sent_of h.files) (sent_of last) (counted_report c) is h.stands));
    }

counts_turned : (c : PeerTold) (filed : FiledDatagrams) → HasDatagram filed.here → Counted c.counts (givens (taken_before filed) ++ givens filed.here) [] → c.ignored ≡ 0 → c.advances ≡ reaches_of (givens (taken_in filed)) → c.resumed ≡ resumptions (taken_in filed) → Counts c (file_finished filed)
counts_turned c filed some counted none noted resumed = record {
  counted = subst (λ (ms : List Message). Counted c.counts ms []) (sym (givens-finished filed)) counted;
  ignored = none ∙ ap (λ (ms : List (List ℕ)). capped (withdrawals_ignored [] ms)) (sym (none_still filed.here filed.ignored_here some));
  noted = noted ∙ ap (λ (ts : List Taken). reaches_of (givens ts)) (sym (in-finished filed));
  resumed = resumed ∙ ap resumptions (sym (in-finished filed));
}

pub peer_turned : (first v after : FilesView) (s t : PeerView) (filed : FiledDatagrams) (p : IsPeer first v s filed) → HasDatagram filed.here → after ≡ with_next v (counted_report s.told)
    → Keeps t.recorder (all_given (taken_before filed) ++ all_given filed.here) [] → Counted t.told.counts (givens (taken_before filed) ++ givens filed.here) [] → t.told.ignored ≡ 0 → t.told.advances ≡ s.told.advances → t.told.resumed ≡ s.told.resumed → t.ended ≡ None → t.known ≡ s.known → t.earlier ≡ s.earlier
    → IsPeer first after t (file_finished filed)
peer_turned first v after s t filed p some is keeps counted none same as_resumed on stays left = record {
  holds = holds_turned first v after filed s.told p.holds p.counted some (ap (λ (u : FilesView). u.contents) is);
  not_failed = ap (λ (u : FilesView). u.failed) is ∙ p.not_failed;
  goes_on = on;
  counted = counts_turned t.told filed some counted none (same ∙ p.counted.noted) (as_resumed ∙ p.counted.resumed);
  keeps = subst (λ (ms : List Message). Keeps t.recorder ms []) (sym (all_given-finished filed)) keeps;
  withdrawn = subst (λ (ts : List Taken). KeepsListed t.known.withdrawn (known_after_all ts)) (sym (in-finished filed)) (subst (λ (k : KnownShown). KeepsListed k.withdrawn (known_after_all (taken_in filed))) (sym stays) p.withdrawn);
  fits = subst (λ (ts : List Taken). Fits t.known.budget t.known.weights (known_after_all ts)) (sym (in-finished filed)) (subst (λ (k : KnownShown). Fits k.budget k.weights (known_after_all (taken_in filed))) (sym stays) p.fits);
  once = subst BarsOnce (sym stays) p.once;
  left = subst (KeepsLeft t.earlier filed.earlier) (sym (in-finished filed)) (subst (λ (w : List (ℕ × LeftShown)). KeepsLeft w filed.earlier (taken_in filed)) (sym left) p.left);
  times = ap times_shown stays ∙ p.times ∙ ap times_of (sym (in-finished filed));
}

-- no message of the file, no datagram
pub none_given : (ts : List Taken) → all_given ts ≡ [] → ts ≡ []
none_given [] none = refl
none_given (t ∷ ts) none = absurd (not_none t.front.given none)
  where
    not_none : (xs : List Message) → (xs ++ t.given ∷ []) ++ all_given ts ≡ [] → ⊥
    not_none [] e = cc
    not_none (x ∷ xs) e = cc

-- there is no datagram to finish
unfinished : (filed : FiledDatagrams) → filed.here ≡ [] → file_finished filed ≡ filed
unfinished filed none =
    ap (λ (ts : List Taken). record { earlier = filed.earlier; finished = finished_now filed.finished ts; here = []; ignored = ignored_now ts filed.ignored filed.ignored_here; ignored_here = ignored_still ts filed.ignored_here }) none
    ∙ ap (λ (ts : List Taken). record { earlier = filed.earlier; finished = filed.finished; here = ts; ignored = filed.ignored; ignored_here = filed.ignored_here }) (sym none)

pub peer_unturned : (first v : FilesView) (s : PeerView) (filed : FiledDatagrams) → IsPeer first v s filed → filed.here ≡ [] → IsPeer first v s (file_finished filed)
peer_unturned first v s filed p none = subst (IsPeer first v s) (sym (unfinished filed none)) p

-- ---- one datagram more

pub taken_with : (filed : FiledDatagrams) (t : Taken) → AreTaken [] (taken_in filed) → IsTaken (basis_with t.resumed t.barred) (known_after_all (taken_in filed)) t.datagram t.preparation t.given → AreTaken [] (taken_in (filed_with filed t))
taken_with filed t are is = subst (AreTaken []) (sym (taken_in-push filed t)) (taken-push [] (taken_in filed) t are is)

pub fronts_with : (filed : FiledDatagrams) (t : Taken) → HaveFronts [] (taken_in filed) → HasFront (all_given (taken_before filed) ++ all_given filed.here) t → HaveFronts [] (taken_in (filed_with filed t))
fronts_with filed t have has =
    subst (HaveFronts []) (sym (taken_in-push filed t)) (fronts-push [] (taken_in filed) t have (subst (λ (b : List Message). HasFront b t) (sym (all_given-append (taken_before filed) filed.here)) has))

-- the file with it
pub file_with : (filed : FiledDatagrams) (m : List ℕ) (second : ℕ) (resumed : Resumed) (barred : List ℕ) (q : DatagramReading) (x : Message) (s : State) (octets : List ℕ) (c : MessageCount) (file : List (List ℕ)) → IsLastFile filed file
    → (k : TookDatagram (all_given (taken_before filed)) (all_given filed.here) s m second resumed barred q x octets c) → IsLastFile (filed_with filed (taken_as m second resumed barred (preparation_of q) k.front x)) (file ++ k.file)
file_with filed m second resumed barred q x s octets c file last k =
    let t = taken_as m second resumed barred (preparation_of q) k.front x in
    let b = all_given (taken_before filed) in
    let more : Writes b [] (all_messages filed.here ++ messages_with t) (all_given filed.here ++ given_with t) (file ++ k.file) = writes-append b [] (all_messages filed.here) (messages_with t) (all_given filed.here) (given_with t) file k.file last k.writes in
    subst (λ (ms : List (List ℕ)). Writes b [] ms (all_given (filed.here ++ t ∷ [])) (file ++ k.file)) (sym (all_messages-push filed.here t))
    (subst (λ (xs : List Message). Writes b [] (all_messages filed.here ++ messages_with t) xs (file ++ k.file)) (sym (all_given-push filed.here t)) more)

-- and what stands in it
pub octets_with : (file more : List (List ℕ)) (octets : List ℕ) → octets ≡ octets_of more → octets_of (file ++ more) ≡ octets_of file ++ octets
octets_with file more octets is = octets-append file more ∙ ap (λ (w : List ℕ). octets_of file ++ w) (sym is)

-- what the exporter sent, with it
pub givens_with : (here : List Taken) (t : Taken) → givens (here ++ t ∷ []) ≡ givens here ++ t.given ∷ []
givens_with here t = givens-append here (t ∷ [])

-- the domains that went on, with it
resumptions-push : (filed : FiledDatagrams) (t : Taken) → resumptions (taken_in (filed_with filed t)) ≡ resumptions (taken_in filed) ++ resumption_of t
resumptions-push filed t =
    ap resumptions (taken_in-push filed t) ∙ flat_map-append resumption_of (taken_in filed) (t ∷ []) ∙ ap (λ (rs : List Resumption). resumptions (taken_in filed) ++ rs) (append-nil (resumption_of t))

pub peer_with : (first v after : FilesView) (s t : PeerView) (filed : FiledDatagrams) (m : List ℕ) (second : ℕ) (resumed : Resumed) (barred : List ℕ) (q : DatagramReading) (x : Message) (octets : List ℕ) (c : MessageCount) (p : IsPeer first v s filed)
    → IsTaken (basis_with resumed barred) (known_after_all (taken_in filed)) m (preparation_of q) x → (k : TookDatagram (all_given (taken_before filed)) (all_given filed.here) t.recorder m second resumed barred q x octets c)
    → after ≡ with_more v octets → Counted t.told.counts (givens (taken_before filed)) (givens filed.here ++ x ∷ [])
    → t.told.ignored ≡ capped (s.told.ignored + q.withdrawals) → q.withdrawals ≡ capped (withdrawals_in m) → t.told.advances ≡ reaches_of (givens (taken_in filed) ++ x ∷ []) → t.told.resumed ≡ s.told.resumed ++ option_to_list (resumption_in x.header.domain (length resumed.templates)) → t.ended ≡ None → KeepsListed t.known.withdrawn x.domains → Fits t.known.budget t.known.weights x.domains → BarsOnce t.known → resumed ≡ resumed_after filed.earlier (taken_in filed) x.header → KeepsLeft t.earlier filed.earlier (taken_in (filed_with filed (taken_as m second resumed barred (preparation_of q) k.front x))) → times_shown t.known ≡ times_of (taken_in (filed_with filed (taken_as m second resumed barred (preparation_of q) k.front x)))
    → IsPeer first after t (filed_with filed (taken_as m second resumed barred (preparation_of q) k.front x))
peer_with first v after s t filed m second resumed barred q x octets c p taken k is counted more ignored noted one_resumed on withdrawn fits once resumes left times =
    let h = p.holds in
    let u = taken_as m second resumed barred (preparation_of q) k.front x in
    let all : givens (taken_in (filed_with filed u)) ≡ givens (taken_in filed) ++ x ∷ [] = ap givens (taken_in-push filed u) ∙ givens-append (taken_in filed) (u ∷ []) in
    record {
      holds = record {
        taken = taken_with filed u h.taken taken;
        resumed = are_resumed filed u h.resumed resumes;
        fronts = fronts_with filed u h.fronts k.has_front;
        some = h.some;
        files = h.files;
        are = h.are;
        ignored = h.ignored;
        earlier = h.earlier;
        file = h.file ++ k.file;
        last = file_with filed m second resumed barred q x t.recorder octets c h.file h.last k;
        stands = stands_more first.contents v.contents after.contents (peer_reports [] h.files) (map sent_of h.files) (sent_of (last_file filed h.file)) (sent_of (last_file (filed_with filed u) (h.file ++ k.file))) octets (ap (λ (w : FilesView). w.contents) is) (octets_with h.file k.file octets k.octets_are) h.stands;
      };
      not_failed = ap (λ (w : FilesView). w.failed) is ∙ p.not_failed;
      goes_on = on;
      counted = record {
        counted = subst (λ (ms : List Message). Counted t.told.counts (givens (taken_before filed)) ms) (sym (givens_with filed.here u)) counted;
        ignored = more ∙ ap (λ (n : ℕ). capped (n + q.withdrawals)) p.counted.ignored ∙ withdrawals-taken filed.here u filed.ignored_here q.withdrawals ignored;
        noted = noted ∙ ap reaches_of (sym all);
        resumed = one_resumed ∙ ap (λ (rs : List Resumption). rs ++ resumption_of u) p.counted.resumed ∙ sym (resumptions-push filed u);
      };
      keeps = subst (Keeps t.recorder (all_given (taken_before filed))) (sym (all_given-push filed.here u)) k.keeps;
      withdrawn = subst (KeepsListed t.known.withdrawn) (sym (known-push filed u)) withdrawn;
      fits = subst (Fits t.known.budget t.known.weights) (sym (known-push filed u)) fits;
      once = once;
      left = left;
      times = times;
    }

-- ---- one that is ignored

abbrev pub ignoring : PeerView → ℕ → PeerView
ignoring s n = record s { told = record s.told { ignored = n } }

pub peer_ignoring : (first v : FilesView) (s : PeerView) (filed : FiledDatagrams) (m : List ℕ) (n : ℕ) → IsPeer first v s filed → n ≡ capped (withdrawals_in m) → IsPeer first v (ignoring s (capped (s.told.ignored + n))) (with_ignored filed m)
peer_ignoring first v s filed m n p is =
    let h = p.holds in
    record {
      holds = record { taken = h.taken; resumed = h.resumed; fronts = h.fronts; some = h.some; files = h.files; are = h.are; ignored = h.ignored; earlier = h.earlier; file = h.file; last = h.last; stands = h.stands };
      not_failed = p.not_failed;
      goes_on = p.goes_on;
      counted = record {
        counted = p.counted.counted;
        ignored = ap (λ (k : ℕ). capped (k + n)) p.counted.ignored ∙ withdrawals-ignored filed.here filed.ignored_here m n is;
        noted = p.counted.noted;
        resumed = p.counted.resumed;
      };
      keeps = p.keeps;
      withdrawn = p.withdrawn;
      fits = p.fits;
      once = p.once;
      left = p.left;
      times = p.times;
    }
