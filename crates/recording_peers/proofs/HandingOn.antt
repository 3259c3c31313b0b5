-- A datagram that is handed on to the recorder.
use Rattle.std.proofs.Common.{◌≡◌, ℕ, suc, true, false, Some, None, Result, Ok, Err, List, [], ◌∷◌, ◌++◌, length, refl, sym, ap, subst, ◌∙◌, append_assoc, arith, length-append}
use Rattle.std.specs.Prelude.{◌==◌, if◌then◌else◌, flat_map}
use Rattle.std.specs.BTreeMap.{BTreeMap}
use Rattle.std.proofs.lemmas.List.{append-nil, map-append, length-map}
use Rattle.lru.proofs.Pairs.{slice_get-cut}
use Rattle.ipfix_session.specs.Given.{IsPrefix}
use Rattle.ipfix_datagrams.specs.Datagrams.{IsTooMuch, barred_after}
use Rattle.ipfix_message.specs.declared.fault.MessageFault.{MessageFault}
use Rattle.ipfix_message.specs.declared.fault.MessageFault.TheVariants.{TooManyFields}
use Rattle.recording_files.specs.declared.message_count.MessageCount.{MessageCount}
use Rattle.recording_files.specs.declared.record_fault.RecordFault.{RecordFault}
use Rattle.recording_files.specs.Files.{FilesView}
use Rattle.recording_order.specs.Arrivals.{Arrival}
use Rattle.recording_order.specs.Windows.{WindowView, after_writing}
use Rattle.recording_order.specs.Releases.{Run, Says, answered}
use Rattle.recording_peer.specs.declared.peer_answer.PeerAnswer.TheVariants.{Recorded, TooMuch, Refused, Ignored}
use Rattle.recording_resumption.specs.declared.earlier_domain.EarlierDomain.{EarlierDomain}
use Rattle.ipfix_message.specs.Domains.{message_header}
use Rattle.recording_peer.specs.Late.{IsReadWhere, IsRefusedAt}
use Rattle.recording_peer.specs.Peers.{Taken, basis_with, known_after_all}
use Rattle.recording_peer.specs.Recording.{BarsOnce, KnownShown, PeerView, FiledDatagrams, IsPeer, IsRecorded, HasStopped, Takes, barred_shown, resumed_for, FinishesFile, filed_with, with_ignored, file_finished, taken_in, ignored_in}
use Rattle.recording_peer.proofs.PeerFiles.{taken_in-push, in-finished, ignored-finished}
use Rattle.recording_peers.specs.declared.peer_state.PeerState.{PeerState}
use Rattle.recording_peers.specs.Happenings.{datagrams_of}
use Rattle.recording_peers.specs.Kept.{Barred, none_barred, Said, WasRecorded, WasRefused, WasOverBudget, WasIgnored, SaidSo, Settles, IsSettled, ignored_after, Recording, HasRecorded, HasFailed, counts_said, counts_of, limits_kept}
use Rattle.recording_peers.specs.declared.peer_limits.PeerLimits.{PeerLimits}
use Rattle.recording_peers.specs.Calls.{Part, Follows, RunsTo, IsRunning, handed_on, one_more_refused, recorded_then, filed_then}
use Rattle.recording_peers.proofs.Growing.{Grows, grows-none}
use Rattle.recording_peers.proofs.Following.{follows-of, ignored-append, recorded-none, datagrams-longer}

-- ---- one more is settled

settles-more : (n : PeerLimits) (left : BTreeMap ℕ EarlierDomain) (before : List Taken) (old : Barred) (ms : List (List ℕ)) (said : List Said) (all : List Taken) (between : Barred) (m : List ℕ) (s : Said) (now : List Taken) (new : Barred)
    → Settles n left before old ms said all between → Settles n left all between (m ∷ []) (s ∷ []) now new → Settles n left before old (ms ++ m ∷ []) (said ++ s ∷ []) now new
settles-more n left before old [] [] all between m s now new h one = subst (λ (b : Barred). Settles n left before b (m ∷ []) (s ∷ []) now new) h.1 (subst (λ (ts : List Taken). Settles n left ts between (m ∷ []) (s ∷ []) now new) h.0 one)
settles-more n left before old [] (t ∷ said) all between m s now new h one = absurd h
settles-more n left before old (x ∷ ms) [] all between m s now new h one = absurd h
settles-more n left before old (x ∷ ms) (WasRecorded c ∷ said) all between m s now new h one = (h.0, h.1, h.2, h.3, h.4, settles-more n left (before ++ h.0 ∷ []) h.1 ms said all between m s now new h.5 one)
settles-more n left before old (x ∷ ms) (WasRefused fault ∷ said) all between m s now new h one = (h.0, settles-more n left before old ms said all between m s now new h.1 one)
settles-more n left before old (x ∷ ms) (WasOverBudget ∷ said) all between m s now new h one = (h.0, h.1, settles-more n left before h.0 ms said all between m s now new h.2 one)
settles-more n left before old (x ∷ ms) (WasIgnored d ∷ said) all between m s now new h one = (h.0, h.1, settles-more n left before old ms said all between m s now new h.2 one)

pub settles-length : (n : PeerLimits) (left : BTreeMap ℕ EarlierDomain) (before : List Taken) (old : Barred) (ms : List (List ℕ)) (said : List Said) (all : List Taken) (now : Barred) → Settles n left before old ms said all now → length said ≡ length ms
settles-length n left before old [] [] all now h = refl
settles-length n left before old [] (t ∷ said) all now h = absurd h
settles-length n left before old (x ∷ ms) [] all now h = absurd h
settles-length n left before old (x ∷ ms) (WasRecorded c ∷ said) all now h = ap suc (settles-length n left (before ++ h.0 ∷ []) h.1 ms said all now h.5)
settles-length n left before old (x ∷ ms) (WasRefused fault ∷ said) all now h = ap suc (settles-length n left before old ms said all now h.1)
settles-length n left before old (x ∷ ms) (WasOverBudget ∷ said) all now h = ap suc (settles-length n left before h.0 ms said all now h.2)
settles-length n left before old (x ∷ ms) (WasIgnored d ∷ said) all now h = ap suc (settles-length n left before old ms said all now h.2)

-- those that were ignored, with the next one
ignored-next : (p : Recording) (more : List Taken) (s : Said) → ignored_in p.filed ≡ ignored_after [] p.said → ignored_in (filed_then false p.filed more (s ∷ [])) ≡ ignored_after [] (p.said ++ s ∷ [])
ignored-next p more (WasRecorded c) h = h ∙ sym (ignored-append [] p.said (WasRecorded c ∷ []))
ignored-next p more (WasRefused fault) h = h ∙ sym (ignored-append [] p.said (WasRefused fault ∷ []))
ignored-next p more WasOverBudget h = h ∙ sym (ignored-append [] p.said (WasOverBudget ∷ []))
ignored-next p more (WasIgnored m) h =
    sym (append_assoc (flat_map (λ (ms : List (List ℕ)). ms) p.filed.ignored) p.filed.ignored_here (m ∷ [])) ∙ ap (λ (ms : List (List ℕ)). ms ++ m ∷ []) h
    ∙ sym (ignored-append [] p.said (WasIgnored m ∷ []))

datagrams-push : (xs : List Arrival) (a : Arrival) → datagrams_of (xs ++ a ∷ []) ≡ datagrams_of xs ++ a.octets ∷ []
datagrams-push xs a = map-append (λ (x : Arrival). x.octets) xs (a ∷ [])

-- what was said of the next one
said-next : (xs : List Arrival) (said : List Said) (s : Said) (says : Says) → length said ≡ length xs → SaidSo (said ++ s ∷ []) says → says (length xs) ≡ counts_said (Some s)
said-next xs said s says same so =
    ap says (sym same) ∙ sym (so (length said) (omega arith) (omega (arith, length-append said (s ∷ [])))) ∙ ap counts_said (slice_get-cut said s [])

module _ {F : Type 0} (seen : F → FilesView) where
  counted : (p : Recording) (r : Run) (k : PeerState F) → IsRunning seen k p r → length p.said ≡ length r.handed_on
  counted p r k is = settles-length p.limits p.filed.earlier [] none_barred (datagrams_of r.handed_on) p.said (taken_in p.filed) (barred_shown k.recorder.known) is.recorded.settles.taken ∙ length-map r.handed_on (λ (a : Arrival). a.octets)

  hands-on : (a : Arrival) (old new : PeerState F) (p : Recording) (r : Run) (s : Said) (more : List Taken) → IsRunning seen old p r → new.window ≡ answered r.window a (counts_said (Some s))
      → HasRecorded seen new (recorded_then false p more (s ∷ [])) (datagrams_of (r.handed_on ++ a ∷ [])) → RunsTo seen new (recorded_then false p more (s ∷ [])) (handed_on a) r
  hands-on a old new p r s more is window recorded = record {
    run = record { window = answered r.window a (counts_said (Some s)); handed_on = r.handed_on ++ a ∷ []; doubled = r.doubled };
    is = record { recorded = recorded; window = window };
    by = λ says so. ap (λ o. record { window = answered r.window a o; handed_on = r.handed_on ++ a ∷ []; doubled = r.doubled }) (said-next r.handed_on p.said s says (counted p r old is) so);
  }

  -- after those before, and where the ids have no template for which the recorder has none
  abbrev SettlesNext : Arrival → PeerState F → Recording → Said → List Taken → Barred → Type 0
  SettlesNext a old p s now new = Settles p.limits p.filed.earlier (taken_in p.filed) (barred_shown old.recorder.known) (a.octets ∷ []) (s ∷ []) now new

  settles-next : (a : Arrival) (old : PeerState F) (p : Recording) (r : Run) (s : Said) (now : List Taken) (new : Barred) → IsRunning seen old p r → SettlesNext a old p s now new
      → Settles p.limits p.filed.earlier [] none_barred (datagrams_of (r.handed_on ++ a ∷ [])) (p.said ++ s ∷ []) now new
  settles-next a old p r s now new is one =
      subst (λ (ms : List (List ℕ)). Settles p.limits p.filed.earlier [] none_barred ms (p.said ++ s ∷ []) now new) (sym (datagrams-push r.handed_on a))
      (settles-more p.limits p.filed.earlier [] none_barred (datagrams_of r.handed_on) p.said (taken_in p.filed) (barred_shown old.recorder.known) a.octets s now new is.recorded.settles.taken one)

  settled-next : (a : Arrival) (old : PeerState F) (p : Recording) (r : Run) (s : Said) (more : List Taken) (new : Barred) → IsRunning seen old p r → SettlesNext a old p s (taken_in (filed_then false p.filed more (s ∷ []))) new
      → IsSettled (datagrams_of (r.handed_on ++ a ∷ [])) (recorded_then false p more (s ∷ [])) new
  settled-next a old p r s more new is one = record {
    taken = settles-next a old p r s (taken_in (filed_then false p.filed more (s ∷ []))) new is one;
    ignored = ignored-next p more s is.recorded.settles.ignored;
  }

  -- its limits stay
  bounds-with : (m : List ℕ) (first : FilesView) (s t : PeerView) (filed : FiledDatagrams) (second : ℕ) (count : MessageCount) (fs : F) → IsRecorded second m first (seen fs) s t filed count → limits_kept t.known ≡ limits_kept s.known
  bounds-with m first s t filed second count fs x = λ i. record { reorder = x.reorder i; templates = x.budget i }

  recorded-one : (a : Arrival) (second : ℕ) (old : PeerState F) (p : Recording) (count : MessageCount) (t : PeerView) (fs : F) → limits_kept old.recorder.known ≡ p.limits → (x : IsRecorded second a.octets p.first (seen fs) old.recorder t p.filed count)
      → SettlesNext a old p (WasRecorded (counts_of count)) (taken_in (filed_then false p.filed (x.next ∷ []) (WasRecorded (counts_of count) ∷ []))) (barred_shown t.known)
  recorded-one a second old p count t fs bounds x = (
    x.next,
    barred_shown t.known,
    x.datagram,
    record { records = sym x.counts.records; unknown_sets = sym (ap (λ o. o.unknown_sets) x.counts.passed_over) },
    record {
      barred = subst (λ (n : PeerLimits). IsReadWhere n.reorder (taken_in p.filed) (barred_shown old.recorder.known) x.next.second x.next.datagram x.next.given.header x.next.barred) bounds
          (subst (λ (m : List ℕ). IsReadWhere old.recorder.known.reorder (taken_in p.filed) (barred_shown old.recorder.known) x.next.second m x.next.given.header x.next.barred) (sym x.datagram)
          (subst (λ (k : ℕ). IsReadWhere old.recorder.known.reorder (taken_in p.filed) (barred_shown old.recorder.known) k a.octets x.next.given.header x.next.barred) (sym x.at) x.barred));
      again = subst (λ (m : List ℕ). (domain : ℕ) → barred_shown t.known domain ≡ (if domain == x.next.given.header.domain then barred_after (barred_shown old.recorder.known domain) m else barred_shown old.recorder.known domain)) (sym x.datagram) x.has_again;
    },
    (taken_in-push p.filed x.next, refl),
  )

  -- it was recorded, and noted
  pub follows-recorded : (old : PeerState F) (a : Arrival) (second : ℕ) (count : MessageCount) (t : PeerView) (fs : F) (w : WindowView) → Takes seen second a.octets (Ok (Recorded count)) old.recorder t old.files fs
      → w ≡ after_writing old.window a (counts_of count) → Follows seen (handed_on a) false old (record old { recorder = t; files = fs; window = w }) (Ok tt)
  follows-recorded old a second count t fs w takes noted =
      let new = record old { recorder = t; files = fs; window = w } in
      let c = counts_of count in
      follows-of seen (handed_on a) false old new (Ok tt) (WasRecorded c ∷ []) refl refl refl
      (λ p r is.
      let x = takes p.first p.filed is.recorded.is in
      record {
        more = x.next ∷ [];
        leads = hands-on a old new p r (WasRecorded c) (x.next ∷ []) is (noted ∙ ap (λ v. after_writing v a c) is.window) (record {
          empty = is.recorded.empty;
          is = x.is;
          bounds = bounds-with a.octets p.first old.recorder t p.filed second count fs x ∙ is.recorded.bounds;
          settles = settled-next a old p r (WasRecorded c) (x.next ∷ []) (barred_shown t.known) is (recorded-one a second old p count t fs is.recorded.bounds x);
        });
      })

  -- it was refused, and nothing else changed
  pub follows-refused : (old : PeerState F) (a : Arrival) (second : ℕ) (fault : MessageFault) (t : PeerView) (fs : F) → Takes seen second a.octets (Ok (Refused fault)) old.recorder t old.files fs
      → Follows seen (handed_on a) false old (record old { recorder = t; files = fs; refused = Some (one_more_refused old.refused fault) }) (Ok tt)
  follows-refused old a second fault t fs takes =
      let new = record old { recorder = t; files = fs; refused = Some (one_more_refused old.refused fault) } in
      follows-of seen (handed_on a) false old new (Ok tt) (WasRefused fault ∷ []) refl refl refl
      (λ p r is.
      let x = takes p.first p.filed is.recorded.is in
      let filed : FiledDatagrams = record p.filed { here = p.filed.here ++ [] } in
      let same : filed ≡ p.filed = λ i. record p.filed { here = append-nil p.filed.here i } in
      let peer : IsPeer p.first (seen fs) t p.filed = subst (λ v. IsPeer p.first v t p.filed) (sym x.2) (subst (λ s. IsPeer p.first (seen old.files) s p.filed) (sym x.1) is.recorded.is) in
      record {
        more = [];
        leads = hands-on a old new p r (WasRefused fault) [] is is.window (record {
          empty = is.recorded.empty;
          is = subst (λ f. IsPeer p.first (seen fs) t f) (sym same) peer;
          bounds = ap (λ (s : PeerView). limits_kept s.known) x.1 ∙ is.recorded.bounds;
          settles = settled-next a old p r (WasRefused fault) [] (barred_shown t.known) is ((second, subst (λ (n : PeerLimits). IsRefusedAt n.reorder (taken_in p.filed) (barred_shown old.recorder.known) (resumed_for p.filed a.octets) second a.octets fault (message_header a.octets)) is.recorded.bounds x.0), (ap taken_in same, ap (λ (s : PeerView). barred_shown s.known) x.1));
        });
      })

  -- it was refused for what it defines, and only the ids that have no template changed
  peer-barred : (first v : FilesView) (s : PeerView) (filed : FiledDatagrams) (barred : List (ℕ × List ℕ)) → BarsOnce (record s.known { barred = barred }) → IsPeer first v s filed → IsPeer first v (record s { known = record s.known { barred = barred } }) filed
  peer-barred first v s filed barred once p = record {
    holds = p.holds;
    not_failed = p.not_failed;
    goes_on = p.goes_on;
    counted = p.counted;
    keeps = p.keeps;
    withdrawn = p.withdrawn;
    fits = p.fits;
    once = once;
    left = p.left;
    times = p.times;
  }

  pub follows-too_much : (old : PeerState F) (a : Arrival) (second : ℕ) (t : PeerView) (fs : F) → Takes seen second a.octets (Ok TooMuch) old.recorder t old.files fs
      → Follows seen (handed_on a) false old (record old { recorder = t; files = fs; refused = Some (one_more_refused old.refused TooManyFields) }) (Ok tt)
  follows-too_much old a second t fs takes =
      let new = record old { recorder = t; files = fs; refused = Some (one_more_refused old.refused TooManyFields) } in
      follows-of seen (handed_on a) false old new (Ok tt) (WasOverBudget ∷ []) refl refl refl
      (λ p r is.
      let x = takes p.first p.filed is.recorded.is in
      let over = x.0 in
      let filed : FiledDatagrams = record p.filed { here = p.filed.here ++ [] } in
      let same : filed ≡ p.filed = λ i. record p.filed { here = append-nil p.filed.here i } in
      let barred : IsPeer p.first (seen old.files) t p.filed = subst (λ (s : PeerView). IsPeer p.first (seen old.files) s p.filed) (sym over.bars.others) (peer-barred p.first (seen old.files) old.recorder p.filed t.known.barred (over.bars.once is.recorded.is.once) is.recorded.is) in
      let peer : IsPeer p.first (seen fs) t p.filed = subst (λ v. IsPeer p.first v t p.filed) (sym x.1) barred in
      record {
        more = [];
        leads = hands-on a old new p r WasOverBudget [] is is.window (record {
          empty = is.recorded.empty;
          is = subst (λ f. IsPeer p.first (seen fs) t f) (sym same) peer;
          bounds = ap (λ (s : PeerView). limits_kept s.known) over.bars.others ∙ is.recorded.bounds;
          settles = settled-next a old p r WasOverBudget [] (barred_shown t.known) is (
            barred_shown t.known,
            record {
              header = over.header;
              is_header = over.is_header;
              second = second;
              without = over.barred;
              read = subst (λ (n : PeerLimits). IsReadWhere n.reorder (taken_in p.filed) (barred_shown old.recorder.known) second a.octets over.header over.barred) is.recorded.bounds over.read;
              ids = over.ids;
              too_much = subst (λ (n : PeerLimits). IsTooMuch (basis_with (resumed_for p.filed a.octets) over.barred) n.templates (known_after_all (taken_in p.filed)) a.octets over.ids) is.recorded.bounds over.too_much;
              barred = over.bars.barred;
            },
            (ap taken_in same, refl),
          );
        });
      })

  -- it was ignored, and only counted
  pub follows-ignored : (old : PeerState F) (a : Arrival) (second : ℕ) (t : PeerView) (fs : F) → Takes seen second a.octets (Ok Ignored) old.recorder t old.files fs
      → Follows seen (handed_on a) false old (record old { recorder = t; files = fs }) (Ok tt)
  follows-ignored old a second t fs takes =
      let new = record old { recorder = t; files = fs } in
      follows-of seen (handed_on a) false old new (Ok tt) (WasIgnored a.octets ∷ []) refl refl refl
      (λ p r is.
      let x = takes p.first p.filed is.recorded.is in
      let filed : FiledDatagrams = record (with_ignored p.filed a.octets) { here = p.filed.here ++ [] } in
      let same : filed ≡ with_ignored p.filed a.octets = λ i. record (with_ignored p.filed a.octets) { here = append-nil p.filed.here i } in
      record {
        more = [];
        leads = hands-on a old new p r (WasIgnored a.octets) [] is is.window (record {
          empty = is.recorded.empty;
          is = subst (λ f. IsPeer p.first (seen fs) t f) (sym same) x.is;
          bounds = ap (λ (s : PeerView). limits_kept s.known) x.others ∙ is.recorded.bounds;
          settles = settled-next a old p r (WasIgnored a.octets) [] (barred_shown t.known) is (refl, x.alone, (ap taken_in same, ap (λ (s : PeerView). barred_shown s.known) x.others));
        });
      })

  -- the recorder, or its files, failed
  pub follows-failed : (old : PeerState F) (a : Arrival) (second : ℕ) (fault : RecordFault) (t : PeerView) (fs : F) → Takes seen second a.octets (Err fault) old.recorder t old.files fs
      → Follows seen (handed_on a) false old (record old { recorder = t; files = fs }) (Err fault)
  follows-failed old a second fault t fs takes =
      let new = record old { recorder = t; files = fs } in
      follows-of seen (handed_on a) false old new (Err fault) [] refl refl refl
      (λ p r is.
      let x = takes p.first p.filed is.recorded.is in
      let failed : HasFailed seen new fault p (λ says. (handed_on a says r).handed_on) = record {
        empty = is.recorded.empty;
        ended = x.0;
        before = datagrams_of r.handed_on;
        next = Some a.octets;
        stopped = x.1;
        barred = barred_shown old.recorder.known;
        settles = is.recorded.settles;
        are_first = λ says so. ([], datagrams-push r.handed_on a ∙ sym (append-nil (datagrams_of r.handed_on ++ a.octets ∷ [])));
      } in
      record { more = []; leads = subst (λ q. HasFailed seen new fault q (λ says. (handed_on a says r).handed_on)) (sym (recorded-none p)) failed })

  -- ---- no memory

  -- a peer that is ended then
  pub record EndsFor (fault : RecordFault) (t u : PeerView) : Type 0 where
    pub ended : u ≡ record t { ended = Some fault }
    pub stopped : (first after : FilesView) (filed : FiledDatagrams) (m : List ℕ) → IsPeer first after t filed → HasStopped fault first after u.told filed m

  -- to note one that was recorded
  pub follows-unnoted : (old : PeerState F) (a : Arrival) (second : ℕ) (count : MessageCount) (t u : PeerView) (fs : F) (w : WindowView) (fault : RecordFault) → Takes seen second a.octets (Ok (Recorded count)) old.recorder t old.files fs
      → EndsFor fault t u → Follows seen (handed_on a) false old (record old { recorder = u; files = fs; window = w }) (Err fault)
  follows-unnoted old a second count t u fs w fault takes ends =
      let new = record old { recorder = u; files = fs; window = w } in
      let c = counts_of count in
      follows-of seen (handed_on a) false old new (Err fault) (WasRecorded c ∷ []) refl refl refl
      (λ p r is.
      let x = takes p.first p.filed is.recorded.is in
      record {
        more = x.next ∷ [];
        leads = record {
          empty = is.recorded.empty;
          ended = ap (λ v. v.ended) ends.ended;
          before = datagrams_of (r.handed_on ++ a ∷ []);
          next = None;
          stopped = ends.stopped p.first (seen fs) (filed_with p.filed x.next) [] x.is;
          barred = barred_shown t.known;
          settles = settled-next a old p r (WasRecorded c) (x.next ∷ []) (barred_shown t.known) is (recorded-one a second old p count t fs is.recorded.bounds x);
          are_first = λ says so. ([], sym (append-nil (datagrams_of (r.handed_on ++ a ∷ []))) ∙ sym (append-nil (datagrams_of (r.handed_on ++ a ∷ []) ++ [])));
        };
      })

  -- the session fails, and none was being recorded
  failed-between : (k new : PeerState F) (fault : RecordFault) (part : Part) (p : Recording) (r : Run) → ((says : Says) → Grows (part says)) → new.recorder.ended ≡ Some fault → HasStopped fault p.first (seen new.files) new.recorder.told p.filed []
      → IsRunning seen k p r → HasFailed seen new fault (recorded_then false p [] []) (λ says. (part says r).handed_on)
  failed-between k new fault part p r grows ended stopped is =
      let failed : HasFailed seen new fault p (λ says. (part says r).handed_on) = record {
        empty = is.recorded.empty;
        ended = ended;
        before = datagrams_of r.handed_on;
        next = None;
        stopped = stopped;
        barred = barred_shown k.recorder.known;
        settles = is.recorded.settles;
        are_first = λ says so. subst (λ ms. IsPrefix ms (datagrams_of (part says r).handed_on)) (sym (append-nil (datagrams_of r.handed_on))) (datagrams-longer r.handed_on (part says r).handed_on (grows says r));
      } in
      subst (λ q. HasFailed seen new fault q (λ says. (part says r).handed_on)) (sym (recorded-none p)) failed

  -- for one that is to wait
  pub follows-no_room : (old : PeerState F) (u : PeerView) (fault : RecordFault) (part : Part) → ((says : Says) → Grows (part says)) → EndsFor fault old.recorder u
      → Follows seen part false old (record old { recorder = u }) (Err fault)
  follows-no_room old u fault part grows ends =
      follows-of seen part false old (record old { recorder = u }) (Err fault) [] refl refl refl
      (λ p r is. record {
        more = [];
        leads = failed-between old (record old { recorder = u }) fault part p r grows (ap (λ v. v.ended) ends.ended) (ends.stopped p.first (seen old.files) p.filed [] is.recorded.is) is;
      })

  -- ---- a file is finished

  follows-finished : (old : PeerState F) (t : PeerView) (fs : F) → FinishesFile seen (Ok tt) old.recorder t old.files fs → Follows seen (λ says r. r) true old (record old { recorder = t; files = fs }) (Ok tt)
  follows-finished old t fs finishes =
      let new = record old { recorder = t; files = fs } in
      follows-of seen (λ says r. r) true old new (Ok tt) [] refl refl refl
      (λ p r is.
      let x = finishes p.first p.filed is.recorded.is in
      let done : Recording = record { limits = p.limits; first = p.first; filed = file_finished p.filed; said = p.said } in
      let same : recorded_then true p [] [] ≡ done = λ i. record { limits = p.limits; first = p.first; filed = file_finished (record p.filed { here = append-nil p.filed.here i }); said = append-nil p.said i } in
      let running : IsRunning seen new done r = record {
        recorded = record {
          empty = is.recorded.empty;
          is = x.0;
          bounds = ap limits_kept x.1 ∙ is.recorded.bounds;
          settles = record {
            taken = subst (λ (ts : List Taken). Settles p.limits p.filed.earlier [] none_barred (datagrams_of r.handed_on) p.said ts (barred_shown t.known)) (sym (in-finished p.filed))
                (subst (λ (k : KnownShown). Settles p.limits p.filed.earlier [] none_barred (datagrams_of r.handed_on) p.said (taken_in p.filed) (barred_shown k)) (sym x.1) is.recorded.settles.taken);
            ignored = ignored-finished p.filed ∙ is.recorded.settles.ignored;
          };
        };
        window = is.window;
      } in
      record { more = []; leads = record { run = r; is = subst (λ q. IsRunning seen new q r) (sym same) running; by = λ says so. refl } })

  follows-unfinished : (old : PeerState F) (t : PeerView) (fs : F) (fault : RecordFault) → FinishesFile seen (Err fault) old.recorder t old.files fs
      → Follows seen (λ says r. r) true old (record old { recorder = t; files = fs }) (Err fault)
  follows-unfinished old t fs fault finishes =
      let new = record old { recorder = t; files = fs } in
      follows-of seen (λ says r. r) true old new (Err fault) [] refl refl refl
      (λ p r is.
      let x = finishes p.first p.filed is.recorded.is in
      record { more = []; leads = failed-between old new fault (λ says r. r) p r (λ says. grows-none) x.0 x.1 is })

  pub follows-finish : (old : PeerState F) (t : PeerView) (fs : F) (answer : Result (Unit {0}) RecordFault) → FinishesFile seen answer old.recorder t old.files fs → Follows seen (λ says r. r) true old (record old { recorder = t; files = fs }) answer
  follows-finish old t fs (Ok x) finishes = follows-finished old t fs finishes
  follows-finish old t fs (Err fault) finishes = follows-unfinished old t fs fault finishes
