-- What is kept of a peer is bounded.
use Rattle.std.proofs.Common.{◌≡◌, ℕ, zero, suc, ◌+◌, ◌<◌, ◌≤◌, Bool, true, false, eqb, leb, ltb, cond, Option, Some, None, List, [], ◌∷◌, ◌++◌, length, take, get_or, refl, sym, ap, subst, ◌∙◌, arith}
use Rattle.std.specs.Prelude.{◌&&◌, slice_get, remove, option_map, sum_by}
use Rattle.std.specs.List.{list_any, position_from}
use Rattle.std.proofs.lemmas.Bool.{leb-true, ltb-true, eqb-true}
use Rattle.std.proofs.lemmas.List.Sums.{sum_by_push, sum_by-cons, sum_by-remove}
use Rattle.recording_order.specs.Arrivals.{Arrival, is_in, count_in, octets_of, room_beside}
use Rattle.recording_order.specs.Bounds.{IsBounded}
use Rattle.recording_order.specs.DataSets.{has_data}
use Rattle.recording_order.specs.Numbers.{standing_of, is_at_due, numbers_after, place}
use Rattle.recording_order.specs.declared.datagram_counts.DatagramCounts.{DatagramCounts}
use Rattle.recording_order.specs.declared.least.Least.{Least}
use Rattle.recording_order.specs.declared.numbering.Numbering.{Numbering}
use Rattle.recording_order.specs.declared.numbering.Standing.{Standing}
use Rattle.recording_order.specs.declared.numbering.Standing.TheVariants.{AtOnce, Ahead, Afar}
use Rattle.recording_order.specs.declared.offer.Offer.{Offer}
use Rattle.recording_order.specs.declared.offer.Offer.TheVariants.{Write, Waits, Doubled, First, Anew}
use Rattle.recording_order.specs.Windows.{WindowView, Offered, numbering, renumbered, due_number, counted, with_doubled, with_reordered, one_doubled, one_reordered, passing, least, without, leaving, ripe, next_of, late_domain, least_in, fitting, at_most, without_first, with_last, held, has_room, is_doubled, now, first_or, offered_full, offered_as, offered, noted, after_writing}
use Rattle.recording_order.specs.Releases.{Event, Came, Tick, Run, Says, answered, hand_on, go_on, empty_with, empty, take_offered, take_with, take_run, settle_with, settle, settle_late, tick_with, step, run_from, start, run}
use Rattle.recording_order.proofs.Bags.{Left, leaving-left}

-- ---- one is counted as one

abbrev one_if : Bool → ℕ
one_if true = 1
one_if false = 0

one_if-is : (b : Bool) → one_if b ≡ cond b 1 0
one_if-is true = refl
one_if-is false = refl

one_if-most : (b : Bool) → one_if b ≤ 1
one_if-most true = omega arith
one_if-most false = omega arith

-- ---- the room

fitting-room : (room : ℕ) (xs : List Arrival) → octets_of (fitting room xs) ≤ room
fitting-room room [] = omega arith
fitting-room room (a ∷ xs) = by_test (leb (octets_of (a ∷ xs)) room) refl (fitting-room room xs)
  where
    by_test : (b : Bool) → leb (octets_of (a ∷ xs)) room ≡ b → octets_of (fitting room xs) ≤ room → octets_of (cond b (a ∷ xs) (fitting room xs)) ≤ room
    by_test true fits rest = leb-true (octets_of (a ∷ xs)) room fits
    by_test false fits rest = rest

-- the oldest go, so no sum becomes greater
fitting-less : (weight : Arrival → ℕ) (room : ℕ) (xs : List Arrival) → sum_by weight (fitting room xs) ≤ sum_by weight xs
fitting-less weight room [] = omega arith
fitting-less weight room (a ∷ xs) = by_test (leb (octets_of (a ∷ xs)) room) (fitting-less weight room xs)
  where
    by_test : (b : Bool) → sum_by weight (fitting room xs) ≤ sum_by weight xs → sum_by weight (cond b (a ∷ xs) (fitting room xs)) ≤ sum_by weight (a ∷ xs)
    by_test true rest = omega arith
    by_test false rest = omega (arith, rest, sum_by-cons weight a xs)

-- ---- the last ones of a domain

-- where the first one is
record IsFirstAt (p : Arrival → Bool) (from at : ℕ) (xs : List Arrival) : Type 0 where
  index : ℕ
  is : at ≡ from + index
  below : index < length xs
  passes : (a : Arrival) → p (get_or xs index a) ≡ true

first-at : (p : Arrival → Bool) (from at : ℕ) (xs : List Arrival) → position_from p from xs ≡ Some at → IsFirstAt p from at xs
first-at p from at [] is = absurd cc
first-at p from at (x ∷ xs) is = by_test (first-at p (from + 1) at xs) (p x) refl is
  where
    by_test : (position_from p (from + 1) xs ≡ Some at → IsFirstAt p (from + 1) at xs) → (b : Bool) → p x ≡ b → cond b (Some from) (position_from p (from + 1) xs) ≡ Some at → IsFirstAt p from at (x ∷ xs)
    by_test more true here same =
        let own : from ≡ at = cc in
        record { index = 0; is = omega (arith, own); below = omega arith; passes = λ a. here }
    by_test more false here same =
        let rest = more same in
        record { index = suc rest.index; is = omega (arith, rest.is); below = omega (arith, rest.below); passes = rest.passes }

first-none : (p : Arrival → Bool) (from : ℕ) (xs : List Arrival) → position_from p from xs ≡ None → sum_by (λ x. cond (p x) 1 0) xs ≡ 0
first-none p from [] is = refl
first-none p from (x ∷ xs) is = by_test (first-none p (from + 1) xs) (p x) refl is
  where
    by_test : (position_from p (from + 1) xs ≡ None → sum_by (λ y. cond (p y) 1 0) xs ≡ 0) → (b : Bool) → p x ≡ b → cond b (Some from) (position_from p (from + 1) xs) ≡ None → sum_by (λ y. cond (p y) 1 0) (x ∷ xs) ≡ 0
    by_test more true here same = absurd cc
    by_test more false here same =
        let none : one_if (p x) ≡ 0 = ap one_if here in
        omega (arith, sum_by-cons (λ y. cond (p y) 1 0) x xs, none, one_if-is (p x), more same)

without_first-less : (weight : Arrival → ℕ) (d : ℕ) (a : Arrival) (xs : List Arrival) (o : Option ℕ) → position_from (is_in d) 0 xs ≡ o → sum_by weight (without_first xs o) ≤ sum_by weight xs
without_first-less weight d a xs None is = omega arith
without_first-less weight d a xs (Some at) is =
    let first = first-at (is_in d) 0 at xs is in
    omega (arith, sum_by-remove weight xs at a (omega (arith, first.is, first.below)))

at_most-less : (weight : Arrival → ℕ) (d : ℕ) (a : Arrival) (xs : List Arrival) → sum_by weight (at_most d xs) ≤ sum_by weight xs
at_most-less weight d a xs = by_test (leb (count_in d xs) 32)
  where
    by_test : (b : Bool) → sum_by weight (cond b xs (without_first xs (position_from (is_in d) 0 xs))) ≤ sum_by weight xs
    by_test true = omega arith
    by_test false = without_first-less weight d a xs (position_from (is_in d) 0 xs) refl

without_first-fewer : (d : ℕ) (a : Arrival) (xs : List Arrival) (o : Option ℕ) → position_from (is_in d) 0 xs ≡ o → count_in d xs ≤ 33 → count_in d (without_first xs o) ≤ 32
without_first-fewer d a xs None is few = omega (arith, first-none (is_in d) 0 xs is)
without_first-fewer d a xs (Some at) is few =
    let first = first-at (is_in d) 0 at xs is in
    let same : at ≡ first.index = omega (arith, first.is) in
    let goes : is_in d (get_or xs at a) ≡ true = rw same (first.passes a) in
    let one : one_if (is_in d (get_or xs at a)) ≡ 1 = ap one_if goes in
    omega (arith, sum_by-remove (λ x. cond (is_in d x) 1 0) xs at a (omega (arith, same, first.below)), one, one_if-is (is_in d (get_or xs at a)), few)

at_most-few : (d : ℕ) (a : Arrival) (xs : List Arrival) → count_in d xs ≤ 33 → count_in d (at_most d xs) ≤ 32
at_most-few d a xs few = by_test (leb (count_in d xs) 32) refl
  where
    by_test : (b : Bool) → leb (count_in d xs) 32 ≡ b → count_in d (cond b xs (without_first xs (position_from (is_in d) 0 xs))) ≤ 32
    by_test true within = leb-true (count_in d xs) 32 within
    by_test false within = without_first-fewer d a xs (position_from (is_in d) 0 xs) refl few

last-few : (d own room : ℕ) (a : Arrival) (xs : List Arrival) → a.header.domain ≡ own → count_in own xs ≤ 32 → count_in d xs ≤ 32 → count_in d (fitting room (at_most own (xs ++ a ∷ []))) ≤ 32
last-few d own room a xs is few_own few = by_domain (is_in d a) refl
  where
    whole : List Arrival
    whole = xs ++ a ∷ []

    fits : count_in d (fitting room (at_most own whole)) ≤ count_in d (at_most own whole)
    fits = fitting-less (λ x. cond (is_in d x) 1 0) room (at_most own whole)

    pushed : (e : ℕ) → count_in e whole ≡ count_in e xs + one_if (is_in e a)
    pushed e = omega (arith, sum_by_push (λ x. cond (is_in e x) 1 0) xs a, one_if-is (is_in e a))

    at-own : count_in own (at_most own whole) ≤ 32
    at-own = at_most-few own a whole (omega (arith, pushed own, few_own, one_if-most (is_in own a)))

    by_domain : (b : Bool) → is_in d a ≡ b → count_in d (fitting room (at_most own whole)) ≤ 32
    by_domain true here =
        let same : own ≡ d = sym is ∙ eqb-true a.header.domain d here in
        omega (arith, fits, subst (λ (e : ℕ). count_in e (at_most own whole) ≤ 32) same at-own)
    by_domain false here =
        let none : one_if (is_in d a) ≡ 0 = ap one_if here in
        omega (arith, fits, at_most-less (λ x. cond (is_in d x) 1 0) own a whole, pushed d, none, few)

bounded-same : (v w : WindowView) → v.waiting ≡ w.waiting → v.last ≡ w.last → IsBounded w → IsBounded v
bounded-same v w waiting last bounded =
    record { octets = rw (waiting, last) bounded.octets; waiting = λ d. rw waiting (bounded.waiting d); last = λ d. rw last (bounded.last d) }

bounded-either : (b : Bool) (v w : WindowView) → IsBounded v → IsBounded w → IsBounded (cond b v w)
bounded-either true v w p q = p
bounded-either false v w p q = q

counted-bounded : (w : WindowView) (d : ℕ) (o : Option Numbering) → IsBounded w → IsBounded (counted w d o)
counted-bounded w d None bounded = bounded
counted-bounded w d (Some n) bounded = bounded-same (renumbered w d n) w refl refl bounded

passing-bounded : (w : WindowView) (d : ℕ) (xs : List Arrival) → IsBounded w → IsBounded (passing w d xs)
passing-bounded w d xs bounded =
    bounded-either (list_any (is_in d) xs) (with_reordered w d) w (counted-bounded w d (option_map one_reordered (numbering w d)) bounded) bounded

with_last-bounded : (w : WindowView) (a : Arrival) → IsBounded w → IsBounded (with_last w a)
with_last-bounded w a bounded =
    let room = fitting-room (room_beside 65536 w.waiting) (at_most a.header.domain (w.last ++ a ∷ [])) in
    let own = a.header.domain in
    record {
      octets = omega (arith, room, bounded.octets);
      waiting = bounded.waiting;
      last = λ d. last-few d own (room_beside 65536 w.waiting) a w.last refl (bounded.last own) (bounded.last d);
    }

writing-bounded : (w : WindowView) (a : Arrival) (c : DatagramCounts) → IsBounded w → IsBounded (after_writing w a c)
writing-bounded w a c bounded =
    let n = numbering w a.header.domain in
    let after = renumbered w a.header.domain (numbers_after n a.header.sequence c) in
    let renumbers : IsBounded after = bounded-same after w refl refl bounded in
    bounded-either (eqb w.seconds 0) w (noted w a n c) bounded
    (bounded-either (is_at_due n a.header.sequence && has_data a.octets) (with_last after a) after (with_last-bounded after a renumbers) renumbers)

answered-bounded : (w : WindowView) (a : Arrival) (o : Option DatagramCounts) → IsBounded w → IsBounded (answered w a o)
answered-bounded w a None bounded = bounded
answered-bounded w a (Some c) bounded = writing-bounded w a c bounded

-- ---- one that leaves

abbrev Goes : Option (Arrival × WindowView) → Type 0
Goes None = Unit {0}
Goes (Some x) = IsBounded x.1

pub counted-last : (w : WindowView) (d : ℕ) (o : Option Numbering) → (counted w d o).last ≡ w.last
counted-last w d None = refl
counted-last w d (Some n) = refl

pub passing-last : (w : WindowView) (d : ℕ) (xs : List Arrival) → (passing w d xs).last ≡ w.last
passing-last w d xs = by_test (list_any (is_in d) xs)
  where
    by_test : (b : Bool) → (cond b (with_reordered w d) w).last ≡ w.last
    by_test true = counted-last w d (option_map one_reordered (numbering w d))
    by_test false = refl

abbrev pub LastSame : WindowView → Option (Arrival × WindowView) → Type 0
LastSame w None = Unit {0}
LastSame w (Some x) = x.1.last ≡ w.last

pub leaving-last : (w : WindowView) (o : Option Least) → LastSame w (leaving w o)
leaving-last w None = tt
leaving-last w (Some l) = by_get (slice_get w.waiting l.index)
  where
    by_get : (p : Option Arrival) → LastSame w (option_map (λ a. (a, without w l.index a)) p)
    by_get None = tt
    by_get (Some a) = passing-last (record w { waiting = remove w.waiting l.index }) a.header.domain (take l.index w.waiting)

fewer : (w : WindowView) (out : Option (Arrival × WindowView)) → ((weight : Arrival → ℕ) → Left weight w out) → LastSame w out → IsBounded w → Goes out
fewer w None left last bounded = tt
fewer w (Some x) left last bounded =
    let octets = left (λ a. length a.octets) in
    record {
      octets = rw last (omega (arith, octets, bounded.octets));
      waiting = λ d. let counts = left (λ a. cond (is_in d a) 1 0) in omega (arith, counts, bounded.waiting d);
      last = λ d. rw last (bounded.last d);
    }

leaving-bounded : (w : WindowView) (o : Option Least) → IsBounded w → Goes (leaving w o)
leaving-bounded w o bounded = fewer w (leaving w o) (λ weight. leaving-left weight w o) (leaving-last w o) bounded

-- ---- one that comes

pub and_first : (b c : Bool) → (b && c) ≡ true → b ≡ true
and_first true c h = refl
and_first false c h = absurd cc

pub and_second : (b c : Bool) → (b && c) ≡ true → c ≡ true
and_second true c h = h
and_second false c h = absurd cc

held-bounded : (w : WindowView) (a : Arrival) → has_room w a.header.domain (length a.octets) ≡ true → IsBounded w → IsBounded (held w a)
held-bounded w a room bounded =
    let few = ltb-true (count_in a.header.domain w.waiting) 32 (and_first (ltb (count_in a.header.domain w.waiting) 32) (leb (length a.octets) (room_beside 65536 w.waiting)) room) in
    let fits = leb-true (length a.octets) (room_beside 65536 w.waiting) (and_second (ltb (count_in a.header.domain w.waiting) 32) (leb (length a.octets) (room_beside 65536 w.waiting)) room) in
    let octets = sum_by_push (λ x. length x.octets) w.waiting a in
    let room = room_beside 65536 (w.waiting ++ a ∷ []) in
    let last = fitting-room room w.last in
    record {
      octets = omega (arith, fits, octets, last, bounded.octets);
      waiting = λ d. by_domain d few (is_in d a) refl;
      last = λ d. omega (arith, fitting-less (λ x. cond (is_in d x) 1 0) room w.last, bounded.last d);
    }
  where
    by_domain : (d : ℕ) → count_in a.header.domain w.waiting < 32 → (b : Bool) → is_in d a ≡ b → count_in d (w.waiting ++ a ∷ []) ≤ 32
    by_domain d few true here =
        let same : a.header.domain ≡ d = eqb-true a.header.domain d here in
        let below : count_in d w.waiting < 32 = subst (λ (e : ℕ). count_in e w.waiting < 32) same few in
        let one : one_if (is_in d a) ≡ 1 = ap one_if here in
        omega (arith, sum_by_push (λ x. cond (is_in d x) 1 0) w.waiting a, one, one_if-is (is_in d a), below)
    by_domain d few false here =
        let none : one_if (is_in d a) ≡ 0 = ap one_if here in
        omega (arith, sum_by_push (λ x. cond (is_in d x) 1 0) w.waiting a, none, one_if-is (is_in d a), bounded.waiting d)

offers-either : (b : Bool) (x y : Offered) → (b ≡ true → IsBounded x.1) → IsBounded y.1 → IsBounded (cond b x y).1
offers-either true x y p q = p refl
offers-either false x y p q = q

offers-first : (w : WindowView) (d : ℕ) (o : Option (Arrival × WindowView)) → IsBounded w → Goes o → IsBounded (first_or (now w d) o).1
offers-first w d None bounded goes = passing-bounded w d w.waiting bounded
offers-first w d (Some x) bounded goes = goes

offers-full : (w : WindowView) (a : Arrival) (o : Option Least) → IsBounded w → IsBounded (offered_full w a.header o).1
offers-full w a None bounded = passing-bounded w a.header.domain w.waiting bounded
offers-full w a (Some l) bounded =
    let d = a.header.domain in
    offers-either (leb l.place (place (due_number w d) a.header.sequence)) (first_or (now w d) (leaving w (Some l))) (now w d)
    (λ h. offers-first w d (leaving w (Some l)) bounded (leaving-bounded w (Some l) bounded)) (passing-bounded w d w.waiting bounded)

offers-as : (w : WindowView) (a : Arrival) (s : Standing) → IsBounded w → IsBounded (offered_as w a s).1
offers-as w a AtOnce bounded = passing-bounded w a.header.domain w.waiting bounded
offers-as w a Ahead bounded =
    let d = a.header.domain in
    offers-either (has_room w d (length a.octets)) (Waits, held w a) (offered_full w a.header (least w d)) (λ room. held-bounded w a room bounded) (offers-full w a (least w d) bounded)
offers-as w a Afar bounded = bounded

offered-bounded : (w : WindowView) (a : Arrival) → IsBounded w → IsBounded (offered w a).1
offered-bounded w a bounded =
    let d = a.header.domain in
    let s = standing_of (numbering w d) a.header.sequence in
    let doubled : Offered = (Doubled, with_doubled w d) in
    offers-either (eqb w.seconds 0) (Write, w) (cond (is_doubled w d a.octets) doubled (offered_as w a s)) (λ h. bounded)
    (offers-either (is_doubled w d a.octets) doubled (offered_as w a s) (λ h. counted-bounded w d (option_map one_doubled (numbering w d)) bounded) (offers-as w a s bounded))

-- ---- a run

abbrev Keeps : (Run → Run) → Type 0
Keeps f = (r : Run) → IsBounded r.window → IsBounded (f r).window

hand_on-bounded : (says : Says) (a : Arrival) (w : WindowView) (r : Run) → IsBounded w → IsBounded (hand_on says a w r).window
hand_on-bounded says a w r bounded = answered-bounded w a (says (length r.handed_on)) bounded

go_on-bounded : (says : Says) (again : Run → Run) (r : Run) (o : Option (Arrival × WindowView)) → IsBounded r.window → Goes o → Keeps again → IsBounded (go_on again says r o).window
go_on-bounded says again r None bounded goes more = bounded
go_on-bounded says again r (Some x) bounded goes more = more (hand_on says x.0 x.1 r) (hand_on-bounded says x.0 x.1 r goes)

empty_with-bounded : (says : Says) (d fuel : ℕ) → Keeps (empty_with says d fuel)
empty_with-bounded says d zero r bounded = bounded
empty_with-bounded says d (suc fuel) r bounded =
    go_on-bounded says (empty_with says d fuel) r (least_in r.window d) bounded (leaving-bounded r.window (least r.window d) bounded) (empty_with-bounded says d fuel)

settle_with-bounded : (says : Says) (d second fuel : ℕ) → Keeps (settle_with says d second fuel)
settle_with-bounded says d second zero r bounded = bounded
settle_with-bounded says d second (suc fuel) r bounded =
    go_on-bounded says (settle_with says d second fuel) r (next_of r.window d second) bounded (leaving-bounded r.window (ripe r.window d second) bounded) (settle_with-bounded says d second fuel)

take_offered-bounded : (says : Says) (a : Arrival) (again : Run → Run) (r : Run) (o : Offer) (w : WindowView) → IsBounded w → Keeps again → IsBounded (take_offered says a again r (o, w)).window
take_offered-bounded says a again r Write w bounded more = hand_on-bounded says a w r bounded
take_offered-bounded says a again r Waits w bounded more = bounded
take_offered-bounded says a again r Doubled w bounded more = bounded
take_offered-bounded says a again r (First b) w bounded more = more (hand_on says b w r) (hand_on-bounded says b w r bounded)
take_offered-bounded says a again r Anew w bounded more =
    let s : Run = record r { window = w } in
    let emptied = empty says a.header.domain s in
    hand_on-bounded says a emptied.window emptied (empty_with-bounded says a.header.domain (length w.waiting) s bounded)

take_with-bounded : (says : Says) (a : Arrival) (fuel : ℕ) → Keeps (take_with says a fuel)
take_with-bounded says a zero r bounded = hand_on-bounded says a r.window r bounded
take_with-bounded says a (suc fuel) r bounded =
    let o = offered r.window a in
    take_offered-bounded says a (take_with says a fuel) r o.0 o.1 (offered-bounded r.window a bounded) (take_with-bounded says a fuel)

settle_late-bounded : (says : Says) (second : ℕ) (again : Run → Run) (r : Run) (o : Option ℕ) → IsBounded r.window → Keeps again → IsBounded (settle_late again says second r o).window
settle_late-bounded says second again r None bounded more = bounded
settle_late-bounded says second again r (Some d) bounded more = more (settle says d second r) (settle_with-bounded says d second (length r.window.waiting) r bounded)

tick_with-bounded : (says : Says) (second fuel : ℕ) → Keeps (tick_with says second fuel)
tick_with-bounded says second zero r bounded = bounded
tick_with-bounded says second (suc fuel) r bounded = settle_late-bounded says second (tick_with says second fuel) r (late_domain r.window second) bounded (tick_with-bounded says second fuel)

step-bounded : (says : Says) (e : Event) (r : Run) → IsBounded r.window → IsBounded (step says r e).window
step-bounded says (Came a) r bounded =
    let s = take_run says a r in
    settle_with-bounded says a.header.domain a.second (length s.window.waiting) s (take_with-bounded says a (suc (length r.window.waiting)) r bounded)
step-bounded says (Tick second) r bounded = tick_with-bounded says second (length r.window.waiting) r bounded

run_from-bounded : (says : Says) (es : List Event) (r : Run) → IsBounded r.window → IsBounded (run_from says r es).window
run_from-bounded says [] r bounded = bounded
run_from-bounded says (e ∷ es) r bounded = run_from-bounded says es (step says r e) (step-bounded says e r bounded)

pub run-bounded : (says : Says) (seconds : ℕ) (es : List Event) → IsBounded (run says seconds es).window
run-bounded says seconds es = run_from-bounded says es (start seconds) (record { octets = omega arith; waiting = λ d. omega arith; last = λ d. omega arith })
