-- Datagrams that come late.
use Rattle.std.proofs.Common.{◌≡◌, ◌<◌, ◌≤◌, ◌&&◌, arith, ℕ, Bool, true, false, cond, Some, List, [], ◌∷◌, ◌++◌, Result, Ok, Err, refl, sym, ap, subst, ◌∙◌, inl, inr}
use Rattle.std.specs.Prelude.{nat_lt}
use Rattle.std.proofs.lemmas.Bool.{le-leb}
use Rattle.std.specs.Map.{lookup}
use Rattle.std.specs.Option.{option_and_then}
use Rattle.std.specs.Ordering.{nat_cmp, eq_by_cmp}
use Rattle.std.specs.BTreeMap.{BTreeMap, get}
use Rattle.ipfix_wire.specs.declared.header.Header.{Header}
use Rattle.ipfix_message.specs.declared.fault.MessageFault.{MessageFault}
use Rattle.ipfix_message.specs.Domains.{History, message_header}
use Rattle.ipfix_message.specs.Outcome.{Fails, Read}
use Rattle.ipfix_message.specs.declared.fault.MessageFault.TheVariants.{OutOfMemory}
use Rattle.ipfix_message.proofs.Reading.{ok_is}
use Rattle.ipfix_session.specs.Given.{known_after}
use Rattle.ipfix_datagrams.specs.Datagrams.{barred_in}
use Rattle.ipfix_datagrams.specs.Late.{FailsLate, IsReadLate, Times, Withheld, is_before, later_in, moment_of, time_at, times_after}
use Rattle.ipfix_datagrams.specs.Reaches.{furthest_in, reaches_of}
use Rattle.ipfix_datagrams.specs.declared.known_templates.KnownTemplates.{KnownTemplates}
use Rattle.ipfix_datagrams.specs.declared.moment.Moment.{Moment}
use Rattle.ipfix_datagrams.specs.declared.reach.Reach.{Reach}
use Rattle.ipfix_datagrams.specs.declared.reading.Reading.{Reading}
use Rattle.ipfix_datagrams.proofs.Answered.{bad_header_refused}
use Rattle.ipfix_datagrams.proofs.Readings.{only_memory}
use Rattle.recording_peer.specs.Peers.{Taken, basis_with, givens, known_after_all}
use Rattle.recording_peer.specs.Late.{IsReadWhere, IsRefusedAt, ReadWhere, is_late, never, times_from, times_of, withheld}
use Rattle.recording_peer.specs.Fronts.{ReadsAfter, ReadsWhere}
use Rattle.recording_peer.specs.Recording.{FiledDatagrams, KnownShown, PeerView, barred_shown, filed_with, known_shown, resumed_for, taken_in, times_listed, times_shown}
use Rattle.recording_peer.proofs.Listed.{barred_same}
use Rattle.recording_peer.proofs.PeerFiles.{taken_in-push}

-- ---- when templates were defined

times_lookup : (test : ℕ → Bool) (id : ℕ) (es : List (ℕ × BTreeMap ℕ Moment)) → option_and_then (λ ts. lookup (eq_by_cmp nat_cmp id) ts) (lookup test (times_listed es)) ≡ option_and_then (λ t. get nat_cmp t id) (lookup test es)
times_lookup test id [] = refl
times_lookup test id (e ∷ es) = by_test (test e.0) (times_lookup test id es)
  where
    by_test : (b : Bool) → option_and_then (λ ts. lookup (eq_by_cmp nat_cmp id) ts) (lookup test (times_listed es)) ≡ option_and_then (λ t. get nat_cmp t id) (lookup test es)
        → option_and_then (λ ts. lookup (eq_by_cmp nat_cmp id) ts) (cond b (Some e.1.entries) (lookup test (times_listed es))) ≡ option_and_then (λ t. get nat_cmp t id) (cond b (Some e.1) (lookup test es))
    by_test true more = refl
    by_test false more = more

pub times_same : (k : KnownTemplates) → times_shown (known_shown k) ≡ time_at k.times
times_same k = λ i domain id. times_lookup (eq_by_cmp nat_cmp domain) id k.times.entries i

-- after one datagram more
pub times-push : (old : Times) (ds : History) (ts : List Taken) (t : Taken)
    → times_from old ds (ts ++ t ∷ []) ≡ times_after (times_from old ds ts) (known_after ds (givens ts)) t.datagram t.given.header.domain (moment_of t.given.header t.second)
times-push old ds [] t = refl
times-push old ds (u ∷ us) t = times-push (times_after old ds u.datagram u.given.header.domain (moment_of u.given.header u.second)) u.given.domains us t

pub times_with : (filed : FiledDatagrams) (u : Taken) (old new : Times) (h : Header) → u.given.header ≡ h → old ≡ times_of (taken_in filed)
    → new ≡ times_after old (known_after_all (taken_in filed)) u.datagram u.given.header.domain (moment_of h u.second) → new ≡ times_of (taken_in (filed_with filed u))
times_with filed u old new h same so_far is =
    is ∙ ap (λ (o : Times). times_after o (known_after_all (taken_in filed)) u.datagram u.given.header.domain (moment_of h u.second)) so_far
    ∙ ap (λ (k : Header). times_after (times_of (taken_in filed)) (known_after_all (taken_in filed)) u.datagram u.given.header.domain (moment_of k u.second)) (sym same)
    ∙ sym (ap times_of (taken_in-push filed u) ∙ times-push never [] (taken_in filed) u)

-- ---- the header that was read

pub same_header : (m : List ℕ) (h k : Header) → message_header m ≡ Ok h → message_header m ≡ Ok k → h ≡ k
same_header m h k one other = ok_is h k (sym one ∙ other)

pub where_at : (s : PeerView) (filed : FiledDatagrams) (second : ℕ) (m : List ℕ) (h k : Header) (barred : List ℕ) → k ≡ h → IsReadWhere s.known.reorder (taken_in filed) (barred_shown s.known) second m h barred
    → IsReadWhere s.known.reorder (taken_in filed) (barred_shown s.known) second m k barred
where_at s filed second m h k barred same = subst (λ (g : Header). IsReadWhere s.known.reorder (taken_in filed) (barred_shown s.known) second m g barred) (sym same)

pub refused_at : (s : PeerView) (filed : FiledDatagrams) (second : ℕ) (m : List ℕ) (f : MessageFault) (r : Read Header) → message_header m ≡ r → IsRefusedAt s.known.reorder (taken_in filed) (barred_shown s.known) (resumed_for filed m) second m f r
    → IsRefusedAt s.known.reorder (taken_in filed) (barred_shown s.known) (resumed_for filed m) second m f (message_header m)
refused_at s filed second m f r is = subst (IsRefusedAt s.known.reorder (taken_in filed) (barred_shown s.known) (resumed_for filed m) second m f) (sym is)

-- one whose header can't be read, or for which memory ran out
refused_memory : (s : PeerView) (filed : FiledDatagrams) (second : ℕ) (m : List ℕ) (f : MessageFault) (h : Header) → f ≡ OutOfMemory
    → IsRefusedAt s.known.reorder (taken_in filed) (barred_shown s.known) (resumed_for filed m) second m f (Ok h)
refused_memory s filed second m f h memory = by_test (is_late s.known.reorder (taken_in filed) h) refl
  where
    by_test : (b : Bool) → is_late s.known.reorder (taken_in filed) h ≡ b → IsRefusedAt s.known.reorder (taken_in filed) (barred_shown s.known) (resumed_for filed m) second m f (Ok h)
    by_test true late = inl (late, inl memory)
    by_test false not_late =
        inr (
          barred_shown s.known h.domain,
          subst (λ (b : Bool). ReadWhere b (withheld s.known.reorder (taken_in filed) h second) (barred_shown s.known h.domain) (known_after_all (taken_in filed)) m h.domain (barred_shown s.known h.domain)) (sym not_late) refl,
          inl memory,
        )

pub refused_header : (s : PeerView) (filed : FiledDatagrams) (second : ℕ) (m : List ℕ) (f : MessageFault) → Fails f (message_header m)
    → IsRefusedAt s.known.reorder (taken_in filed) (barred_shown s.known) (resumed_for filed m) second m f (message_header m)
refused_header s filed second m f fails = refused_at s filed second m f (message_header m) refl (by_cases (message_header m) refl)
  where
    by_cases : (r : Read Header) → message_header m ≡ r → IsRefusedAt s.known.reorder (taken_in filed) (barred_shown s.known) (resumed_for filed m) second m f r
    by_cases (Err g) e = bad_header_refused (basis_with (resumed_for filed m) []) (known_after_all (taken_in filed)) m f fails
    by_cases (Ok h) e = refused_memory s filed second m f h (only_memory f (message_header m) h fails e)

-- ---- whether one comes late

pub on_is : (n : ℕ) → 0 < n → nat_lt 0 n ≡ true
on_is n h = le-leb 1 n h

pub off_is : (n : ℕ) → n ≤ 0 → nat_lt 0 n ≡ false
off_is n h = let zero : n ≡ 0 = omega (arith, h) in ap (nat_lt 0) zero

pub late_is : (reorder : ℕ) (ts : List Taken) (h : Header) (reaches : List (ℕ × Reach)) (b : Bool) → nat_lt 0 reorder ≡ true → reaches ≡ reaches_of (givens ts) → b ≡ is_before (furthest_in reaches h.domain) h.sequence → b ≡ is_late reorder ts h
late_is reorder ts h reaches b on noted is =
    is ∙ ap (λ (rs : List (ℕ × Reach)). is_before (furthest_in rs h.domain) h.sequence) noted ∙ sym (ap (λ (o : Bool). o && is_before (furthest_in (reaches_of (givens ts)) h.domain) h.sequence) on)

pub late_off : (reorder : ℕ) (ts : List Taken) (h : Header) → nat_lt 0 reorder ≡ false → false ≡ is_late reorder ts h
late_off reorder ts h off = sym (ap (λ (o : Bool). o && is_before (furthest_in (reaches_of (givens ts)) h.domain) h.sequence) off)

-- ---- what is read then

pub barred_is : (s : PeerView) (k : KnownTemplates) (barred : List ℕ) (domain : ℕ) → known_shown k ≡ s.known → barred ≡ barred_in k.barred domain → barred ≡ barred_shown s.known domain
barred_is s k barred domain same is = is ∙ sym (barred_same k domain) ∙ ap (λ (n : KnownShown). barred_shown n domain) same

reads_so : (s : PeerView) (filed : FiledDatagrams) (second : ℕ) (m : List ℕ) (h : Header) (barred : List ℕ) (result : Result Reading MessageFault) → IsReadWhere s.known.reorder (taken_in filed) (barred_shown s.known) second m h barred
    → ReadsWhere s m barred result filed → ReadsAfter s second m h result filed
reads_so s filed second m h barred (Ok r) so reads = record { barred = barred; where_barred = so; answers = reads }
reads_so s filed second m h barred (Err f) so reads = inr (barred, so, reads)

pub reads_on_time : (s : PeerView) (filed : FiledDatagrams) (second : ℕ) (m : List ℕ) (h : Header) (barred : List ℕ) (result : Result Reading MessageFault) → is_late s.known.reorder (taken_in filed) h ≡ false → barred ≡ barred_shown s.known h.domain
    → ReadsWhere s m barred result filed → ReadsAfter s second m h result filed
reads_on_time s filed second m h barred result not_late same =
    reads_so s filed second m h barred result
    (subst (λ (b : Bool). ReadWhere b (withheld s.known.reorder (taken_in filed) h second) (barred_shown s.known h.domain) (known_after_all (taken_in filed)) m h.domain barred) (sym not_late) same)

-- those that are withheld, by what is kept
held_is : (s : PeerView) (k : KnownTemplates) (ts : List Taken) (h : Header) (second : ℕ) → known_shown k ≡ s.known → times_shown s.known ≡ times_of ts → later_in k.reorder (moment_of h second) (time_at k.times h.domain) ≡ withheld s.known.reorder ts h second
held_is s k ts h second same times =
    ap (λ (t : Times). later_in k.reorder (moment_of h second) (t h.domain)) (sym (times_same k))
    ∙ ap (λ (n : KnownShown). later_in n.reorder (moment_of h second) (times_shown n h.domain)) same
    ∙ ap (λ (t : Times). later_in s.known.reorder (moment_of h second) (t h.domain)) times

pub reads_late : (s : PeerView) (k : KnownTemplates) (filed : FiledDatagrams) (second : ℕ) (m : List ℕ) (h : Header) (barred : List ℕ) (result : Result Reading MessageFault) → known_shown k ≡ s.known → times_shown s.known ≡ times_of (taken_in filed)
    → is_late s.known.reorder (taken_in filed) h ≡ true → IsReadLate (later_in k.reorder (moment_of h second) (time_at k.times h.domain)) (barred_in k.barred h.domain) (known_after_all (taken_in filed)) m h.domain barred
    → ReadsWhere s m barred result filed → ReadsAfter s second m h result filed
reads_late s k filed second m h barred result same times late read =
    let ts = taken_in filed in
    let ds = known_after_all ts in
    let held = held_is s k ts h second same times in
    let old : barred_in k.barred h.domain ≡ barred_shown s.known h.domain = barred_is s k (barred_in k.barred h.domain) h.domain same refl in
    let so = subst (λ (w : Withheld). IsReadLate w (barred_shown s.known h.domain) ds m h.domain barred) held (subst (λ (ids : List ℕ). IsReadLate (later_in k.reorder (moment_of h second) (time_at k.times h.domain)) ids ds m h.domain barred) old read) in
    reads_so s filed second m h barred result (subst (λ (b : Bool). ReadWhere b (withheld s.known.reorder ts h second) (barred_shown s.known h.domain) ds m h.domain barred) (sym late) so)

pub fails_late : (s : PeerView) (k : KnownTemplates) (filed : FiledDatagrams) (second : ℕ) (m : List ℕ) (h : Header) (f : MessageFault) → known_shown k ≡ s.known → times_shown s.known ≡ times_of (taken_in filed)
    → is_late s.known.reorder (taken_in filed) h ≡ true → FailsLate (later_in k.reorder (moment_of h second) (time_at k.times h.domain)) (known_after_all (taken_in filed)) m h.domain f
    → IsRefusedAt s.known.reorder (taken_in filed) (barred_shown s.known) (resumed_for filed m) second m f (Ok h)
fails_late s k filed second m h f same times late fails =
    inl (late, subst (λ (w : Withheld). FailsLate w (known_after_all (taken_in filed)) m h.domain f) (held_is s k (taken_in filed) h second same times) fails)
