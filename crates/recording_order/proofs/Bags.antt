-- Every datagram that came was handed on, waits or was doubled, once.
use Rattle.std.proofs.Common.{◌≡◌, ℕ, zero, suc, ◌+◌, ◌<◌, Bool, true, false, eqb, leb, cond, Option, Some, None, List, [], ◌∷◌, ◌++◌, length, take, get_or, ◌≤◌, refl, ap, ◌∙◌, arith, inl, inr}
use Rattle.std.specs.Prelude.{◌⊎◌, ◌&&◌, sum_by, slice_get, remove, option_map}
use Rattle.std.specs.List.{list_any}
use Rattle.std.proofs.lemmas.List.Sums.{sum_by_push, sum_by-remove, sum_by-append}
use Rattle.std.proofs.lemmas.Option.{slice_get_cases}
use Rattle.recording_order.specs.Arrivals.{Arrival, is_in}
use Rattle.recording_order.specs.Numbers.{standing_of, is_at_due, numbers_after, place}
use Rattle.recording_order.specs.DataSets.{has_data}
use Rattle.recording_order.specs.declared.datagram_counts.DatagramCounts.{DatagramCounts}
use Rattle.recording_order.specs.declared.least.Least.{Least}
use Rattle.recording_order.specs.declared.numbering.Numbering.{Numbering}
use Rattle.recording_order.specs.declared.numbering.Standing.{Standing}
use Rattle.recording_order.specs.declared.numbering.Standing.TheVariants.{AtOnce, Ahead, Afar}
use Rattle.recording_order.specs.declared.offer.Offer.{Offer}
use Rattle.recording_order.specs.declared.offer.Offer.TheVariants.{Write, Waits, Doubled, First, Anew}
use Rattle.recording_order.specs.Windows.{WindowView, Offered, counted, renumbered, passing, with_reordered, with_doubled, one_reordered, one_doubled, numbering, due_number, after_writing, noted, with_last, least, leaving, ripe, next_of, late_domain, least_in, last_of, now, first_or, held, has_room, is_doubled, offered_full, offered_as, offered}
use Rattle.recording_order.specs.Releases.{Event, Came, Tick, all_of, came_in, came, Run, Says, answered, hand_on, take_offered, take_with, take_run, go_on, empty_with, empty, begin_anew, settle_with, settle, settle_late, tick_with, finish_with, finish, step, run_from, start, run}

-- ---- what waits

abbrev Weight : Type 0
Weight = Arrival → ℕ

counted-waiting : (w : WindowView) (d : ℕ) (o : Option Numbering) → (counted w d o).waiting ≡ w.waiting
counted-waiting w d None = refl
counted-waiting w d (Some n) = refl

pub passing-waiting : (w : WindowView) (d : ℕ) (xs : List Arrival) → (passing w d xs).waiting ≡ w.waiting
passing-waiting w d xs = by_test (list_any (is_in d) xs)
  where
    by_test : (b : Bool) → (cond b (with_reordered w d) w).waiting ≡ w.waiting
    by_test true = counted-waiting w d (option_map one_reordered (numbering w d))
    by_test false = refl

writing-waiting : (w : WindowView) (a : Arrival) (c : DatagramCounts) → (after_writing w a c).waiting ≡ w.waiting
writing-waiting w a c = by_test (eqb w.seconds 0)
  where
    by_due : (after : WindowView) (b : Bool) → (cond b (with_last after a) after).waiting ≡ after.waiting
    by_due after true = refl
    by_due after false = refl

    by_test : (b : Bool) → (cond b w (noted w a (numbering w a.header.domain) c)).waiting ≡ w.waiting
    by_test true = refl
    by_test false =
        let n = numbering w a.header.domain in
        by_due (renumbered w a.header.domain (numbers_after n a.header.sequence c)) (is_at_due n a.header.sequence && has_data a.octets)

pub answered-waiting : (w : WindowView) (a : Arrival) (o : Option DatagramCounts) → (answered w a o).waiting ≡ w.waiting
answered-waiting w a None = refl
answered-waiting w a (Some c) = writing-waiting w a c

-- one that leaves no longer waits
abbrev pub Left : Weight → WindowView → Option (Arrival × WindowView) → Type 0
Left weight w None = Unit {0}
Left weight w (Some x) = sum_by weight x.1.waiting + weight x.0 ≡ sum_by weight w.waiting

pub leaving-left : (weight : Weight) (w : WindowView) (o : Option Least) → Left weight w (leaving w o)
leaving-left weight w None = tt
leaving-left weight w (Some l) = by_cases (slice_get_cases w.waiting l.index).1
  where
    stays_and_gone : (m n k p : ℕ) → m ≡ n → n + k ≡ p → m + k ≡ p
    stays_and_gone m n k p e h = omega arith

    by_cases : ((x : Arrival) × (l.index < length w.waiting) × (slice_get w.waiting l.index ≡ Some x) × (get_or w.waiting l.index x ≡ x)) ⊎ ((length w.waiting ≤ l.index) × (slice_get w.waiting l.index ≡ None)) → Left weight w (leaving w (Some l))
    by_cases (inl found) =
        let x = found.0 in
        let gone = sum_by-remove weight w.waiting l.index x found.1 in
        let stays = ap (sum_by weight) (passing-waiting (record w { waiting = remove w.waiting l.index }) x.header.domain (take l.index w.waiting)) in
        rw found.2 (stays_and_gone _ _ _ _ stays (rw found.3 at gone))
    by_cases (inr none) = rw none.1 tt

-- what is done with one that comes
abbrev pub Offers : Weight → WindowView → Arrival → Offered → Type 0
Offers weight w a o = elim o.0 [
  | Write ↦ sum_by weight o.1.waiting ≡ sum_by weight w.waiting
  | Waits ↦ sum_by weight o.1.waiting ≡ sum_by weight w.waiting + weight a
  | Doubled ↦ sum_by weight o.1.waiting ≡ sum_by weight w.waiting
  | First b ↦ sum_by weight o.1.waiting + weight b ≡ sum_by weight w.waiting
  | Anew ↦ sum_by weight o.1.waiting ≡ sum_by weight w.waiting
]

offers-either : (weight : Weight) (w : WindowView) (a : Arrival) (b : Bool) (x y : Offered) → Offers weight w a x → Offers weight w a y → Offers weight w a (cond b x y)
offers-either weight w a true x y p q = p
offers-either weight w a false x y p q = q

offers-now : (weight : Weight) (w : WindowView) (a : Arrival) (d : ℕ) → Offers weight w a (now w d)
offers-now weight w a d = ap (sum_by weight) (passing-waiting w d w.waiting)

offers-first : (weight : Weight) (w : WindowView) (a : Arrival) (other : Offered) (o : Option (Arrival × WindowView)) → Offers weight w a other → Left weight w o → Offers weight w a (first_or other o)
offers-first weight w a other None p left = p
offers-first weight w a other (Some x) p left = left

offers-full : (weight : Weight) (w : WindowView) (a : Arrival) (o : Option Least) → Offers weight w a (offered_full w a.header o)
offers-full weight w a None = offers-now weight w a a.header.domain
offers-full weight w a (Some l) =
    offers-either weight w a (leb l.place (place (due_number w a.header.domain) a.header.sequence)) (first_or (now w a.header.domain) (leaving w (Some l))) (now w a.header.domain) (offers-first weight w a (now w a.header.domain) (leaving w (Some l)) (offers-now weight w a a.header.domain) (leaving-left weight w (Some l))) (offers-now weight w a a.header.domain)

offers-as : (weight : Weight) (w : WindowView) (a : Arrival) (s : Standing) → Offers weight w a (offered_as w a s)
offers-as weight w a AtOnce = offers-now weight w a a.header.domain
offers-as weight w a Ahead =
    offers-either weight w a (has_room w a.header.domain (length a.octets)) (Waits, held w a) (offered_full w a.header (least w a.header.domain)) (sum_by_push weight w.waiting a) (offers-full weight w a (least w a.header.domain))
offers-as weight w a Afar = refl

pub offered-offers : (weight : Weight) (w : WindowView) (a : Arrival) → Offers weight w a (offered w a)
offered-offers weight w a =
    let s = standing_of (numbering w a.header.domain) a.header.sequence in
    let doubled : Offered = (Doubled, with_doubled w a.header.domain) in
    offers-either weight w a (eqb w.seconds 0) (Write, w) (cond (is_doubled w a.header.domain a.octets) doubled (offered_as w a s)) refl
    (offers-either weight w a (is_doubled w a.header.domain a.octets) doubled (offered_as w a s)
    (ap (sum_by weight) (counted-waiting w a.header.domain (option_map one_doubled (numbering w a.header.domain)))) (offers-as weight w a s))

-- ---- a run

abbrev pub bag : Weight → Run → ℕ
bag weight r = sum_by weight r.handed_on + (sum_by weight r.window.waiting + sum_by weight r.doubled)

pub hand_on-bag : (weight : Weight) (says : Says) (a : Arrival) (w : WindowView) (r : Run) → bag weight (hand_on says a w r) ≡ sum_by weight r.handed_on + weight a + (sum_by weight w.waiting + sum_by weight r.doubled)
hand_on-bag weight says a w r =
    let handed_on = sum_by_push weight r.handed_on a in
    let waits = ap (sum_by weight) (answered-waiting w a (says (length r.handed_on))) in
    rw (handed_on, waits) refl

go_on-bag : (weight : Weight) (says : Says) (again : Run → Run) (r : Run) (o : Option (Arrival × WindowView)) → Left weight r.window o → ((s : Run) → bag weight (again s) ≡ bag weight s) → bag weight (go_on again says r o) ≡ bag weight r
go_on-bag weight says again r None left goes = refl
go_on-bag weight says again r (Some x) left goes =
    let here = hand_on-bag weight says x.0 x.1 r in
    let then_ = goes (hand_on says x.0 x.1 r) in
    omega arith

empty_with-bag : (weight : Weight) (says : Says) (domain fuel : ℕ) (r : Run) → bag weight (empty_with says domain fuel r) ≡ bag weight r
empty_with-bag weight says domain zero r = refl
empty_with-bag weight says domain (suc fuel) r =
    go_on-bag weight says (empty_with says domain fuel) r (least_in r.window domain) (leaving-left weight r.window (least r.window domain)) (empty_with-bag weight says domain fuel)

begin_anew-bag : (weight : Weight) (says : Says) (a : Arrival) (r : Run) → bag weight (begin_anew says a r) ≡ bag weight r + weight a
begin_anew-bag weight says a r =
    let s = empty says a.header.domain r in
    let here = hand_on-bag weight says a s.window s in
    let same = empty_with-bag weight says a.header.domain (length r.window.waiting) r in
    omega arith

take_offered-bag : (weight : Weight) (says : Says) (a : Arrival) (again : Run → Run) (r : Run) (o : Offer) (w : WindowView) → Offers weight r.window a (o, w)
    → ((s : Run) → bag weight (again s) ≡ bag weight s + weight a) → bag weight (take_offered says a again r (o, w)) ≡ bag weight r + weight a
take_offered-bag weight says a again r Write w offers goes = let here = hand_on-bag weight says a w r in omega arith
take_offered-bag weight says a again r Waits w offers goes = omega arith
take_offered-bag weight says a again r Doubled w offers goes = let here = sum_by_push weight r.doubled a in omega arith
take_offered-bag weight says a again r (First b) w offers goes =
    let here = hand_on-bag weight says b w r in
    let then_ = goes (hand_on says b w r) in
    omega arith
take_offered-bag weight says a again r Anew w offers goes =
    let here = begin_anew-bag weight says a (record r { window = w }) in
    omega arith

take_with-bag : (weight : Weight) (says : Says) (a : Arrival) (fuel : ℕ) (r : Run) → bag weight (take_with says a fuel r) ≡ bag weight r + weight a
take_with-bag weight says a zero r = let here = hand_on-bag weight says a r.window r in omega arith
take_with-bag weight says a (suc fuel) r =
    let o = offered r.window a in
    take_offered-bag weight says a (take_with says a fuel) r o.0 o.1 (offered-offers weight r.window a) (take_with-bag weight says a fuel)

settle_with-bag : (weight : Weight) (says : Says) (domain second fuel : ℕ) (r : Run) → bag weight (settle_with says domain second fuel r) ≡ bag weight r
settle_with-bag weight says domain second zero r = refl
settle_with-bag weight says domain second (suc fuel) r =
    go_on-bag weight says (settle_with says domain second fuel) r (next_of r.window domain second) (leaving-left weight r.window (ripe r.window domain second)) (settle_with-bag weight says domain second fuel)

settle-bag : (weight : Weight) (says : Says) (domain second : ℕ) (r : Run) → bag weight (settle says domain second r) ≡ bag weight r
settle-bag weight says domain second r = settle_with-bag weight says domain second (length r.window.waiting) r

settle_late-bag : (weight : Weight) (says : Says) (second : ℕ) (again : Run → Run) (r : Run) (o : Option ℕ) → ((s : Run) → bag weight (again s) ≡ bag weight s) → bag weight (settle_late again says second r o) ≡ bag weight r
settle_late-bag weight says second again r None goes = refl
settle_late-bag weight says second again r (Some domain) goes = goes (settle says domain second r) ∙ settle-bag weight says domain second r

tick_with-bag : (weight : Weight) (says : Says) (second fuel : ℕ) (r : Run) → bag weight (tick_with says second fuel r) ≡ bag weight r
tick_with-bag weight says second zero r = refl
tick_with-bag weight says second (suc fuel) r = settle_late-bag weight says second (tick_with says second fuel) r (late_domain r.window second) (tick_with-bag weight says second fuel)

pub last_of-left : (weight : Weight) (w : WindowView) (xs : List Arrival) → Left weight w (last_of w xs)
last_of-left weight w [] = tt
last_of-left weight w (a ∷ xs) = leaving-left weight w (least w a.header.domain)

finish_with-bag : (weight : Weight) (says : Says) (fuel : ℕ) (r : Run) → bag weight (finish_with says fuel r) ≡ bag weight r
finish_with-bag weight says zero r = refl
finish_with-bag weight says (suc fuel) r =
    go_on-bag weight says (finish_with says fuel) r (last_of r.window r.window.waiting) (last_of-left weight r.window r.window.waiting) (finish_with-bag weight says fuel)

pub finish-bag : (weight : Weight) (says : Says) (r : Run) → bag weight (finish says r) ≡ bag weight r
finish-bag weight says r = finish_with-bag weight says (length r.window.waiting) r

step-bag : (weight : Weight) (says : Says) (r : Run) (e : Event) → bag weight (step says r e) ≡ bag weight r + sum_by weight (came_in e)
step-bag weight says r (Came a) =
    let settled = settle-bag weight says a.header.domain a.second (take_run says a r) in
    let taken = take_with-bag weight says a (suc (length r.window.waiting)) r in
    omega arith
step-bag weight says r (Tick second) = let ticked = tick_with-bag weight says second (length r.window.waiting) r in omega arith

run_from-bag : (weight : Weight) (says : Says) (r : Run) (es : List Event) → bag weight (run_from says r es) ≡ bag weight r + sum_by weight (came es)
run_from-bag weight says r [] = omega arith
run_from-bag weight says r (e ∷ es) =
    let first = step-bag weight says r e in
    let rest = run_from-bag weight says (step says r e) es in
    let both = sum_by-append weight (came_in e) (came es) in
    omega arith

-- every datagram that came
pub all_that_came : (weight : Weight) (says : Says) (seconds : ℕ) (es : List Event) → bag weight (run says seconds es) ≡ sum_by weight (came es)
all_that_came weight says seconds es = let whole = run_from-bag weight says (start seconds) es in omega arith

pub all-bag : (weight : Weight) (r : Run) → sum_by weight (all_of r) ≡ bag weight r
all-bag weight r =
    let first : sum_by weight (all_of r) ≡ sum_by weight r.handed_on + sum_by weight (r.window.waiting ++ r.doubled) = sum_by-append weight r.handed_on (r.window.waiting ++ r.doubled) in
    omega (arith, first, sum_by-append weight r.window.waiting r.doubled)
