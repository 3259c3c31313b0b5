-- A session stands for one thing more that happened.
use Rattle.std.proofs.Common.{◌≡◌, ℕ, Bool, true, false, None, Result, Ok, Err, List, [], ◌∷◌, ◌++◌, refl, sym, ap, subst, ◌∙◌, arith, inl, inr}
use Rattle.std.proofs.lemmas.List.{append-nil, length-map}
use Rattle.std.proofs.lemmas.Grind.{flat_map-append}
use Rattle.ipfix_wire.specs.declared.header.Header.{Header}
use Rattle.ipfix_message.specs.Domains.{message_header}
use Rattle.ipfix_message.specs.declared.fault.MessageFault.{MessageFault}
use Rattle.ipfix_session.specs.Given.{IsPrefix}
use Rattle.recording_files.specs.declared.record_fault.RecordFault.{RecordFault}
use Rattle.recording_files.specs.Files.{FilesView}
use Rattle.recording_order.specs.Alike.{SameButCounts, RunsAlike, StayAlike}
use Rattle.recording_order.specs.Arrivals.{Arrival}
use Rattle.recording_order.specs.Counts.{with_counts_begun}
use Rattle.recording_order.specs.Windows.{WindowView}
use Rattle.recording_order.specs.Releases.{Run, Says, Event, Came, Tick, AsksOnlyFrom, step, tick, run_from, run, finish}
use Rattle.recording_peer.specs.Recording.{IsPeer, PeerView, barred_shown, taken_in}
use Rattle.recording_peers.specs.declared.peer_limits.PeerLimits.{PeerLimits}
use Rattle.recording_peers.specs.declared.peer_state.PeerState.{PeerState}
use Rattle.recording_peers.specs.Happenings.{Happening, DatagramCame, SecondBegan, arrived, event_of, events_of, datagrams_of}
use Rattle.recording_peers.specs.Kept.{Said, SaidSo, Recording, HasRecorded, HasFailed, IsSession, HasEnded, IsReleased, IsSettled, limits_kept, none_barred, says_of}
use Rattle.recording_peers.specs.Calls.{Part, Follows, RunsTo, TakesBy, Takes, TakesTurn, TellsCounts, arriving, recorded_then}
use Rattle.recording_peers.specs.declared.turn.Turn.{Turn}
use Rattle.recording_order.specs.declared.order_counts.OrderCounts.{OrderCounts}
use Rattle.recording_peers.proofs.Following.{Lead, lead-of, fails-as, said-before, said-itself}
use Rattle.recording_peers.proofs.Growing.{prefix-same}
use Rattle.recording_peers.proofs.HandingOn.{settles-length}

-- ---- one more event

run_from-append : (says : Says) (r : Run) (es fs : List Event) → run_from says r (es ++ fs) ≡ run_from says (run_from says r es) fs
run_from-append says r [] fs = refl
run_from-append says r (e ∷ es) fs = run_from-append says (step says r e) es fs

pub events-more : (hs : List Happening) (h : Happening) → events_of (hs ++ h ∷ []) ≡ events_of hs ++ event_of h
events-more hs h = flat_map-append event_of hs (h ∷ []) ∙ ap (λ es. events_of hs ++ es) (append-nil (event_of h))

run-more : (says : Says) (seconds : ℕ) (hs : List Happening) (h : Happening) (es : List Event) → event_of h ≡ es → run says seconds (events_of (hs ++ h ∷ [])) ≡ run_from says (run says seconds (events_of hs)) es
run-more says seconds hs h es is =
    ap (run says seconds) (events-more hs h ∙ ap (λ fs. events_of hs ++ fs) is) ∙ run_from-append says _ (events_of hs) es

-- laws of runs: only what was said of those that were handed on is asked, and the counts change nothing
pub record Laws : Type 0 where
  pub asked : (seconds : ℕ) (es : List Event) → AsksOnlyFrom 0 (λ says. run says seconds es)
  pub step_alike : (says : Says) (e : Event) → StayAlike (λ r. step says r e)
  pub finish_alike : (says : Says) → StayAlike (finish says)
  pub told : (w : WindowView) → SameButCounts (with_counts_begun w) w

module _ {F : Type 0} (seen : F → FilesView) (laws : Laws) (limits : PeerLimits) where
  same-run : (k : PeerState F) (hs : List Happening) (s : IsSession seen k limits hs) (more : List Said) (says : Says) → SaidSo (s.recording.said ++ more) says
      → run says limits.reorder (events_of hs) ≡ run (says_of s.recording.said) limits.reorder (events_of hs)
  same-run k hs s more says so =
      let r = run (says_of s.recording.said) limits.reorder (events_of hs) in
      let many = settles-length s.recording.limits s.recording.filed.earlier [] none_barred (datagrams_of r.handed_on) s.recording.said (taken_in s.recording.filed) (barred_shown k.recorder.known) s.recorded.settles.taken ∙ length-map r.handed_on (λ (a : Arrival). a.octets) in
      sym (laws.asked limits.reorder (events_of hs) (says_of s.recording.said) says (λ n from below. said-before s.recording.said more says so n from (omega (arith, below, many))))

  -- by the answer
  abbrev pub StandsBy : Result (Unit {0}) RecordFault → PeerState F → List Happening → Type 0
  StandsBy (Ok x) k hs = IsSession seen k limits hs
  StandsBy (Err fault) k hs = HasEnded seen k limits hs

  lead-stands : (part : Part) (finishes : Bool) (old new : PeerState F) (answer : Result (Unit {0}) RecordFault) (hs then : List Happening) (said : List Said) → ((says : Says) → StayAlike (part says))
      → ((says : Says) → run says limits.reorder (events_of then) ≡ part says (run says limits.reorder (events_of hs))) → (s : IsSession seen old limits hs)
      → Lead seen part finishes new answer said s.recording (record (run (says_of s.recording.said) limits.reorder (events_of hs)) { window = old.window }) → StandsBy answer new then
  lead-stands part finishes old new (Ok x) hs then said keeps goes s lead =
      let r = run (says_of s.recording.said) limits.reorder (events_of hs) in
      let own : Run = record r { window = old.window } in
      let p = recorded_then finishes s.recording lead.more said in
      let to : RunsTo seen new p part own = lead.leads in
      let says = says_of p.said in
      let so = said-itself p.said in
      let whole : run says limits.reorder (events_of then) ≡ part says r = goes says ∙ ap (part says) (same-run old hs s said says so) in
      let alike : RunsAlike (part says own) (part says r) = keeps says own r (record { handed_on = refl; window = s.window }) in
      let there : RunsAlike to.run (run says limits.reorder (events_of then)) =
      subst (λ t. RunsAlike t (run says limits.reorder (events_of then))) (to.by says so) (subst (λ t. RunsAlike (part says own) t) (sym whole) alike) in
      record {
        recording = p;
        bounds = s.bounds;
        recorded = subst (λ xs. HasRecorded seen new p (datagrams_of xs)) there.handed_on to.is.recorded;
        window = ap with_counts_begun to.is.window ∙ there.window;
      }
  lead-stands part finishes old new (Err fault) hs then said keeps goes s lead =
      let r = run (says_of s.recording.said) limits.reorder (events_of hs) in
      let own : Run = record r { window = old.window } in
      let p = recorded_then false s.recording lead.more said in
      let failed : HasFailed seen new fault p (λ says. (part says own).handed_on) = lead.leads in
      record {
        recording = p;
        bounds = s.bounds;
        fault = fault;
        failed = fails-as seen new fault p (λ says. (run says limits.reorder (events_of then)).handed_on) (λ says. (part says own).handed_on)
            (λ says so.
            let whole : run says limits.reorder (events_of then) ≡ part says r = goes says ∙ ap (part says) (same-run old hs s said says so) in
            let alike : RunsAlike (part says own) (part says r) = keeps says own r (record { handed_on = refl; window = s.window }) in
            subst (λ xs. IsPrefix (datagrams_of (part says own).handed_on) (datagrams_of xs)) (alike.handed_on ∙ ap (λ (t : Run). t.handed_on) (sym whole)) (prefix-same (datagrams_of (part says own).handed_on)))
            failed;
      }

  follows-stands : (part : Part) (finishes : Bool) (old new : PeerState F) (answer : Result (Unit {0}) RecordFault) (hs then : List Happening) → ((says : Says) → StayAlike (part says))
      → ((says : Says) → run says limits.reorder (events_of then) ≡ part says (run says limits.reorder (events_of hs))) → IsSession seen old limits hs → Follows seen part finishes old new answer → StandsBy answer new then
  follows-stands part finishes old new answer hs then keeps goes s a =
      lead-stands part finishes old new answer hs then a.said keeps goes s
      (lead-of seen part finishes old new answer a s.recording (record (run (says_of s.recording.said) limits.reorder (events_of hs)) { window = old.window }) (record {
        recorded = record { empty = s.recorded.empty; is = s.recorded.is; bounds = s.recorded.bounds; settles = s.recorded.settles };
        window = refl;
      }))

  -- ---- a datagram

  -- whatever else a session keeps
  session-of : (old new : PeerState F) (hs : List Happening) → new.recorder ≡ old.recorder → new.files ≡ old.files → new.window ≡ old.window → IsSession seen old limits hs → IsSession seen new limits hs
  session-of old new hs recorder files window s = record {
    recording = s.recording;
    bounds = s.bounds;
    recorded = record {
      empty = s.recorded.empty;
      is = subst (λ t. IsPeer s.recording.first (seen new.files) t s.recording.filed) (sym recorder) (subst (λ f. IsPeer s.recording.first (seen f) old.recorder s.recording.filed) (sym files) s.recorded.is);
      bounds = ap (λ (t : PeerView). limits_kept t.known) recorder ∙ s.recorded.bounds;
      settles = subst (λ (t : PeerView). IsSettled (datagrams_of (run (says_of s.recording.said) limits.reorder (events_of hs)).handed_on) s.recording (barred_shown t.known)) (sym recorder) s.recorded.settles;
    };
    window = ap with_counts_begun window ∙ s.window;
  }

  same-events : (k : PeerState F) (hs then : List Happening) → events_of then ≡ events_of hs → IsSession seen k limits hs → IsSession seen k limits then
  same-events k hs then same s = record {
    recording = s.recording;
    bounds = s.bounds;
    recorded = subst (λ es. HasRecorded seen k s.recording (datagrams_of (run (says_of s.recording.said) limits.reorder es).handed_on)) (sym same) s.recorded;
    window = subst (λ es. SameButCounts k.window (run (says_of s.recording.said) limits.reorder es).window) (sym same) s.window;
  }

  takes-by : (old new : PeerState F) (hs : List Happening) (m : List ℕ) (second : ℕ) (answer : Result (Unit {0}) RecordFault) (h : Result Header MessageFault) → message_header m ≡ h
      → IsSession seen old limits hs → TakesBy seen h (record old { heard = second }) new m second answer → StandsBy answer new (hs ++ DatagramCame m second ∷ [])
  takes-by old new hs m second answer (Ok h) is s takes =
      let a : Arrival = record { header = h; second = second; octets = m } in
      follows-stands (arriving a) false (record old { heard = second }) new answer hs (hs ++ DatagramCame m second ∷ []) (λ says. laws.step_alike says (Came a))
      (λ says. run-more says limits.reorder hs (DatagramCame m second) (Came a ∷ []) (ap (arrived m second) is))
      (session-of old (record old { heard = second }) hs refl refl refl s) takes
  takes-by old new hs m second (Ok x) (Err fault) is s takes =
      same-events new hs (hs ++ DatagramCame m second ∷ []) (events-more hs (DatagramCame m second) ∙ ap (λ es. events_of hs ++ es) (ap (arrived m second) is) ∙ append-nil (events_of hs))
      (session-of old new hs (ap (λ (k : PeerState F). k.recorder) takes.1) (ap (λ (k : PeerState F). k.files) takes.1) (ap (λ (k : PeerState F). k.window) takes.1) s)
  takes-by old new hs m second (Err e) (Err fault) is s takes = let none = takes.0 in absurd cc

  pub takes-stands : (old new : PeerState F) (hs : List Happening) (m : List ℕ) (second : ℕ) (answer : Result (Unit {0}) RecordFault) → IsSession seen old limits hs → Takes seen old new m second answer
      → StandsBy answer new (hs ++ DatagramCame m second ∷ [])
  takes-stands old new hs m second answer s takes = takes-by old new hs m second answer (message_header m) refl s takes

  -- ---- a second

  turn-ended : (answer : Result (Unit {0}) RecordFault) (new : PeerState F) (w : WindowView) (told : ℕ) (hs : List Happening) → SameButCounts new.window w → StandsBy answer (record new { window = w; resumptions_told = told }) hs → StandsBy answer new hs
  turn-ended (Ok x) new w told hs alike s = record { recording = s.recording; bounds = s.bounds; recorded = record { empty = s.recorded.empty; is = s.recorded.is; bounds = s.recorded.bounds; settles = s.recorded.settles }; window = alike ∙ s.window }
  turn-ended (Err fault) new w told hs alike e = record {
    recording = e.recording;
    bounds = e.bounds;
    fault = e.fault;
    failed = record { empty = e.failed.empty; ended = e.failed.ended; before = e.failed.before; next = e.failed.next; stopped = e.failed.stopped; barred = e.failed.barred; settles = e.failed.settles; are_first = e.failed.are_first };
  }

  counts-alike : (is_over : Bool) (w after : WindowView) (orders : List OrderCounts) → TellsCounts is_over w orders after → SameButCounts after w
  counts-alike false w after orders t = ap with_counts_begun t.1
  counts-alike true w after orders t = elim t [
    | inl told ↦ ap with_counts_begun told.1 ∙ laws.told w
    | inr kept ↦ ap with_counts_begun kept.1
  ]

  pub turn-stands : (old new : PeerState F) (hs : List Happening) (second : ℕ) (is_over : Bool) (t : Turn) → IsSession seen old limits hs → TakesTurn seen old new second is_over t → StandsBy t.answer new (hs ++ SecondBegan second ∷ [])
  turn-stands old new hs second is_over t s takes =
      turn-ended t.answer new takes.window old.resumptions_told (hs ++ SecondBegan second ∷ []) (counts-alike is_over takes.window new.window t.orders.items takes.counts)
      (follows-stands (λ says r. tick says second r) is_over (record old { refused = None }) (record new { window = takes.window; resumptions_told = old.resumptions_told }) t.answer hs (hs ++ SecondBegan second ∷ []) (λ says. laws.step_alike says (Tick second))
      (λ says. run-more says limits.reorder hs (SecondBegan second) (Tick second ∷ []) refl) (session-of old (record old { refused = None }) hs refl refl refl s) takes.follows)

  -- ---- the end

  pub release-stands : (old new : PeerState F) (hs : List Happening) → IsSession seen old limits hs → Follows seen finish false old new (Ok tt) → (p : Recording) × IsReleased seen new limits hs p
  release-stands old new hs s a =
      let r = run (says_of s.recording.said) limits.reorder (events_of hs) in
      let own : Run = record r { window = old.window } in
      let lead = lead-of seen finish false old new (Ok tt) a s.recording own (record { recorded = s.recorded; window = refl }) in
      let p = recorded_then false s.recording lead.more a.said in
      let to : RunsTo seen new p finish own = lead.leads in
      let says = says_of p.said in
      let so = said-itself p.said in
      let whole : finish says (run says limits.reorder (events_of hs)) ≡ finish says r = ap (finish says) (same-run old hs s a.said says so) in
      let alike : RunsAlike (finish says own) (finish says r) = laws.finish_alike says own r (record { handed_on = refl; window = s.window }) in
      (p, (s.bounds, subst (λ xs. HasRecorded seen new p (datagrams_of xs)) (ap (λ (t : Run). t.handed_on) (sym (to.by says so)) ∙ alike.handed_on ∙ ap (λ (t : Run). t.handed_on) (sym whole)) to.is.recorded))
