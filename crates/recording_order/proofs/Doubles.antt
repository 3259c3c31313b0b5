-- Datagrams that are doubled came already.
use Rattle.std.proofs.Common.{◌≡◌, ℕ, zero, suc, Bool, true, false, eqb, leb, cond, Option, Some, None, List, [], ◌∷◌, ◌++◌, length, take, drop, refl, subst, inl, inr}
use Rattle.std.specs.Prelude.{◌&&◌, ◌||◌, remove, option_map, All, Contains}
use Rattle.std.specs.List.{position_from}
use Rattle.std.specs.Str.{bytes_eq}
use Rattle.std.proofs.lemmas.Bool.{eqb-true}
use Rattle.std.proofs.lemmas.List.{take-append-drop}
use Rattle.std.proofs.lemmas.List.Elements.{All-contains_itself, All-weaker, Contains-append_left, Contains-append_right, Contains-append_cases}
use Rattle.std.proofs.lemmas.List.Folds.{Any-from_list_any}
use Rattle.std.proofs.lemmas.Slice.Eq.{bytes_eq-Decides}
use Rattle.recording_order.specs.Arrivals.{Arrival, is_in, has_octets, is_among, count_in, octets_of, room_beside}
use Rattle.recording_order.specs.DataSets.{has_data}
use Rattle.recording_order.specs.Doubles.{IsSameAsOne}
use Rattle.recording_order.specs.Numbers.{standing_of, is_at_due, numbers_after, place}
use Rattle.recording_order.specs.declared.datagram_counts.DatagramCounts.{DatagramCounts}
use Rattle.recording_order.specs.declared.least.Least.{Least}
use Rattle.recording_order.specs.declared.numbering.Standing.{Standing}
use Rattle.recording_order.specs.declared.numbering.Standing.TheVariants.{AtOnce, Ahead, Afar}
use Rattle.recording_order.specs.declared.offer.Offer.{Offer}
use Rattle.recording_order.specs.declared.offer.Offer.TheVariants.{Write, Waits, Doubled, First, Anew}
use Rattle.recording_order.specs.Windows.{WindowView, Offered, numbering, renumbered, due_number, with_doubled, one_doubled, least, leaving, ripe, next_of, late_domain, least_in, fitting, at_most, without_first, with_last, held, has_room, is_doubled, now, first_or, offered_full, offered_as, offered, noted}
use Rattle.recording_order.specs.Releases.{Event, Came, Tick, Run, Says, answered, hand_on, go_on, empty_with, empty, take_offered, take_with, take_run, settle_with, settle, settle_late, tick_with, step, run_from, start, run}
use Rattle.recording_order.proofs.Bounds.{LastSame, leaving-last, counted-last, passing-last, and_first, and_second}

-- ---- what is doubled

same-among : (domain : ℕ) (octets : List ℕ) (xs : List Arrival) → is_among domain octets xs ≡ true → IsSameAsOne xs domain octets
same-among domain octets xs h =
    let any = Any-from_list_any (has_octets domain octets) xs h in
    record {
      one = any.1;
      among = (any.0, any.2, any.3);
      domain = eqb-true any.1.header.domain domain (and_first (is_in domain any.1) (bytes_eq any.1.octets octets) any.4);
      octets = (bytes_eq-Decides any.1.octets octets).0 (and_second (is_in domain any.1) (bytes_eq any.1.octets octets) any.4);
    }

pub doubled-same : (w : WindowView) (domain : ℕ) (octets : List ℕ) → is_doubled w domain octets ≡ true → IsSameAsOne (w.waiting ++ w.last) domain octets
doubled-same w domain octets h =
    by_test (is_among domain octets w.waiting) refl (and_second (has_data octets) (is_among domain octets w.waiting || is_among domain octets w.last) h)
  where
    by_test : (b : Bool) → is_among domain octets w.waiting ≡ b → (b || is_among domain octets w.last) ≡ true → IsSameAsOne (w.waiting ++ w.last) domain octets
    by_test true waits either =
        let s = same-among domain octets w.waiting waits in
        record { one = s.one; among = Contains-append_left w.waiting w.last s.one s.among; domain = s.domain; octets = s.octets }
    by_test false waits either =
        let s = same-among domain octets w.last either in
        record { one = s.one; among = Contains-append_right w.waiting w.last s.one s.among; domain = s.domain; octets = s.octets }

pub doubled-data : (w : WindowView) (domain : ℕ) (octets : List ℕ) → is_doubled w domain octets ≡ true → has_data octets ≡ true
doubled-data w domain octets h = and_first (has_data octets) (is_among domain octets w.waiting || is_among domain octets w.last) h

-- ---- the last ones were handed on

abbrev Within : List Arrival → List Arrival → Type 0
Within xs ys = (b : Arrival) → Contains xs b → Contains ys b

within-cons : (a : Arrival) (xs : List Arrival) → Within xs (a ∷ xs)
within-cons a xs b h = Contains-append_right (a ∷ []) xs b h

fitting-within : (room : ℕ) (xs : List Arrival) → Within (fitting room xs) xs
fitting-within room [] b = λ h. h
fitting-within room (a ∷ xs) b = by_test (leb (octets_of (a ∷ xs)) room) (fitting-within room xs b)
  where
    by_test : (t : Bool) → (Contains (fitting room xs) b → Contains xs b) → Contains (cond t (a ∷ xs) (fitting room xs)) b → Contains (a ∷ xs) b
    by_test true more h = h
    by_test false more h = within-cons a xs b (more h)

remove-within : (xs : List Arrival) (index : ℕ) → Within (remove xs index) xs
remove-within xs index b h =
    elim (Contains-append_cases (take index xs) (drop (suc index) xs) b h) [
      | inl before ↦ subst (λ (ys : List Arrival). Contains ys b) (take-append-drop index xs) (Contains-append_left (take index xs) (drop index xs) b before)
      | inr after ↦ subst (λ (ys : List Arrival). Contains ys b) (take-append-drop (suc index) xs) (Contains-append_right (take (suc index) xs) (drop (suc index) xs) b after)
    ]

without_first-within : (xs : List Arrival) (o : Option ℕ) → Within (without_first xs o) xs
without_first-within xs None b h = h
without_first-within xs (Some index) b h = remove-within xs index b h

at_most-within : (domain : ℕ) (xs : List Arrival) → Within (at_most domain xs) xs
at_most-within domain xs b = by_test (leb (count_in domain xs) 32)
  where
    by_test : (t : Bool) → Contains (cond t xs (without_first xs (position_from (is_in domain) 0 xs))) b → Contains xs b
    by_test true h = h
    by_test false h = without_first-within xs (position_from (is_in domain) 0 xs) b h

-- of these windows the last ones of the one are among those of the other
abbrev Keeps : WindowView → WindowView → Type 0
Keeps w v = Within v.last w.last

keeps-same : (w v : WindowView) → v.last ≡ w.last → Keeps w v
keeps-same w v same b h = subst (λ (xs : List Arrival). Contains xs b) same h

keeps-either : (w : WindowView) (t : Bool) (x y : Offered) → Keeps w x.1 → Keeps w y.1 → Keeps w (cond t x y).1
keeps-either w true x y p q = p
keeps-either w false x y p q = q

abbrev Leaves : WindowView → Option (Arrival × WindowView) → Type 0
Leaves w None = Unit {0}
Leaves w (Some x) = Keeps w x.1

leaves-same : (w : WindowView) (o : Option (Arrival × WindowView)) → LastSame w o → Leaves w o
leaves-same w None same = tt
leaves-same w (Some x) same = keeps-same w x.1 same

leaving-keeps : (w : WindowView) (o : Option Least) → Leaves w (leaving w o)
leaving-keeps w o = leaves-same w (leaving w o) (leaving-last w o)

now-keeps : (w : WindowView) (domain : ℕ) → Keeps w (now w domain).1
now-keeps w domain = keeps-same w (now w domain).1 (passing-last w domain w.waiting)

first-keeps : (w : WindowView) (domain : ℕ) (o : Option (Arrival × WindowView)) → Leaves w o → Keeps w (first_or (now w domain) o).1
first-keeps w domain None leaves = now-keeps w domain
first-keeps w domain (Some x) leaves = leaves

full-keeps : (w : WindowView) (a : Arrival) (o : Option Least) → Keeps w (offered_full w a.header o).1
full-keeps w a None = now-keeps w a.header.domain
full-keeps w a (Some l) =
    let d = a.header.domain in
    keeps-either w (leb l.place (place (due_number w d) a.header.sequence)) (first_or (now w d) (leaving w (Some l))) (now w d)
    (first-keeps w d (leaving w (Some l)) (leaving-keeps w (Some l))) (now-keeps w d)

as-keeps : (w : WindowView) (a : Arrival) (s : Standing) → Keeps w (offered_as w a s).1
as-keeps w a AtOnce = now-keeps w a.header.domain
as-keeps w a Ahead =
    keeps-either w (has_room w a.header.domain (length a.octets)) (Waits, held w a) (offered_full w a.header (least w a.header.domain))
    (fitting-within (room_beside 65536 (w.waiting ++ a ∷ [])) w.last) (full-keeps w a (least w a.header.domain))
as-keeps w a Afar = keeps-same w w refl

offered-keeps : (w : WindowView) (a : Arrival) → Keeps w (offered w a).1
offered-keeps w a =
    let d = a.header.domain in
    let s = standing_of (numbering w d) a.header.sequence in
    let doubled : Offered = (Doubled, with_doubled w d) in
    keeps-either w (eqb w.seconds 0) (Write, w) (cond (is_doubled w d a.octets) doubled (offered_as w a s)) (keeps-same w w refl)
    (keeps-either w (is_doubled w d a.octets) doubled (offered_as w a s) (keeps-same w (with_doubled w d) (counted-last w d (option_map one_doubled (numbering w d)))) (as-keeps w a s))

-- one more is among the last ones at most
abbrev Adds : WindowView → Arrival → WindowView → Type 0
Adds w a v = Within v.last (w.last ++ a ∷ [])

adds-none : (w : WindowView) (a : Arrival) (v : WindowView) → v.last ≡ w.last → Adds w a v
adds-none w a v same b h = Contains-append_left w.last (a ∷ []) b (keeps-same w v same b h)

adds-either : (w : WindowView) (a : Arrival) (t : Bool) (u v : WindowView) → Adds w a u → Adds w a v → Adds w a (cond t u v)
adds-either w a true u v p q = p
adds-either w a false u v p q = q

last-adds : (w v : WindowView) (a : Arrival) → v.last ≡ w.last → Adds w a (with_last v a)
last-adds w v a same b h =
    let whole = at_most-within a.header.domain (v.last ++ a ∷ []) b (fitting-within (room_beside 65536 v.waiting) (at_most a.header.domain (v.last ++ a ∷ [])) b h) in
    subst (λ (xs : List Arrival). Contains (xs ++ a ∷ []) b) same whole

answered-adds : (w : WindowView) (a : Arrival) (o : Option DatagramCounts) → Adds w a (answered w a o)
answered-adds w a None = adds-none w a w refl
answered-adds w a (Some c) =
    let n = numbering w a.header.domain in
    let after = renumbered w a.header.domain (numbers_after n a.header.sequence c) in
    adds-either w a (eqb w.seconds 0) w (noted w a n c) (adds-none w a w refl)
    (adds-either w a (is_at_due n a.header.sequence && has_data a.octets) (with_last after a) after (last-adds w after a refl) (adds-none w a after refl))

-- ---- a run

abbrev Known : Run → Type 0
Known r = Within r.window.last r.handed_on

hand_on-known : (says : Says) (a : Arrival) (w : WindowView) (r : Run) → Keeps r.window w → Known r → Known (hand_on says a w r)
hand_on-known says a w r keeps known b h =
    elim (Contains-append_cases w.last (a ∷ []) b (answered-adds w a (says (length r.handed_on)) b h)) [
      | inl before ↦ Contains-append_left r.handed_on (a ∷ []) b (known b (keeps b before))
      | inr itself ↦ Contains-append_right r.handed_on (a ∷ []) b itself
    ]

abbrev Keeping : (Run → Run) → Type 0
Keeping f = (r : Run) → Known r → Known (f r)

go_on-known : (says : Says) (again : Run → Run) (r : Run) (o : Option (Arrival × WindowView)) → Leaves r.window o → Keeping again → Known r → Known (go_on again says r o)
go_on-known says again r None leaves more known = known
go_on-known says again r (Some x) leaves more known = more (hand_on says x.0 x.1 r) (hand_on-known says x.0 x.1 r leaves known)

empty_with-known : (says : Says) (d fuel : ℕ) → Keeping (empty_with says d fuel)
empty_with-known says d zero r known = known
empty_with-known says d (suc fuel) r known =
    go_on-known says (empty_with says d fuel) r (least_in r.window d) (leaving-keeps r.window (least r.window d)) (empty_with-known says d fuel) known

settle_with-known : (says : Says) (d second fuel : ℕ) → Keeping (settle_with says d second fuel)
settle_with-known says d second zero r known = known
settle_with-known says d second (suc fuel) r known =
    go_on-known says (settle_with says d second fuel) r (next_of r.window d second) (leaving-keeps r.window (ripe r.window d second)) (settle_with-known says d second fuel) known

take_offered-known : (says : Says) (a : Arrival) (again : Run → Run) (r : Run) (o : Offer) (w : WindowView) → Keeps r.window w → Keeping again → Known r → Known (take_offered says a again r (o, w))
take_offered-known says a again r Write w keeps more known = hand_on-known says a w r keeps known
take_offered-known says a again r Waits w keeps more known = λ b h. known b (keeps b h)
take_offered-known says a again r Doubled w keeps more known = λ b h. known b (keeps b h)
take_offered-known says a again r (First b) w keeps more known = more (hand_on says b w r) (hand_on-known says b w r keeps known)
take_offered-known says a again r Anew w keeps more known =
    let s : Run = record r { window = w } in
    let emptied = empty says a.header.domain s in
    hand_on-known says a emptied.window emptied (keeps-same emptied.window emptied.window refl) (empty_with-known says a.header.domain (length w.waiting) s (λ b h. known b (keeps b h)))

take_with-known : (says : Says) (a : Arrival) (fuel : ℕ) → Keeping (take_with says a fuel)
take_with-known says a zero r known = hand_on-known says a r.window r (keeps-same r.window r.window refl) known
take_with-known says a (suc fuel) r known =
    let o = offered r.window a in
    take_offered-known says a (take_with says a fuel) r o.0 o.1 (offered-keeps r.window a) (take_with-known says a fuel) known

settle_late-known : (says : Says) (second : ℕ) (again : Run → Run) (r : Run) (o : Option ℕ) → Keeping again → Known r → Known (settle_late again says second r o)
settle_late-known says second again r None more known = known
settle_late-known says second again r (Some d) more known = more (settle says d second r) (settle_with-known says d second (length r.window.waiting) r known)

tick_with-known : (says : Says) (second fuel : ℕ) → Keeping (tick_with says second fuel)
tick_with-known says second zero r known = known
tick_with-known says second (suc fuel) r known = settle_late-known says second (tick_with says second fuel) r (late_domain r.window second) (tick_with-known says second fuel) known

step-known : (says : Says) (e : Event) → Keeping (λ r. step says r e)
step-known says (Came a) r known =
    let s = take_run says a r in
    settle_with-known says a.header.domain a.second (length s.window.waiting) s (take_with-known says a (suc (length r.window.waiting)) r known)
step-known says (Tick second) r known = tick_with-known says second (length r.window.waiting) r known

run_from-known : (says : Says) (es : List Event) → Keeping (λ r. run_from says r es)
run_from-known says [] r known = known
run_from-known says (e ∷ es) r known = run_from-known says es (step says r e) (step-known says e r known)

pub run-known : (says : Says) (seconds : ℕ) (es : List Event) → Known (run says seconds es)
run-known says seconds es = run_from-known says es (start seconds) (λ b h. h)

-- each of these is among those
pub all-known : (xs ys : List Arrival) → ((a : Arrival) → Contains xs a → Contains ys a) → All (Contains ys) xs
all-known xs ys known = All-weaker (Contains xs) (Contains ys) known xs (All-contains_itself xs)
