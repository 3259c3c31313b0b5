-- A datagram of one domain changes nothing of another.
use Rattle.std.proofs.Common.{◌≡◌, ℕ, zero, suc, ◌+◌, Bool, true, false, eqb, leb, cond, Option, Some, None, List, [], ◌∷◌, ◌++◌, length, take, filter, refl, sym, ap, ◌∙◌, append_assoc, arith, inl, inr}
use Rattle.std.specs.Prelude.{◌≢◌, ◌&&◌, slice_get, remove, option_map}
use Rattle.std.specs.List.{list_any}
use Rattle.std.specs.Map.{lookup}
use Rattle.std.proofs.lemmas.Bool.{eqb-true, eq-eqb, ne_eqb}
use Rattle.std.proofs.lemmas.Bool.Decides.{eqb_tells}
use Rattle.std.proofs.lemmas.List.{append-nil, length-append}
use Rattle.std.proofs.lemmas.List.Elements.{filter-append}
use Rattle.indexmap.specs.IndexMap.{insert_entry}
use Rattle.recording_order.specs.Arrivals.{Arrival, is_in}
use Rattle.recording_order.specs.DataSets.{has_data}
use Rattle.recording_order.specs.Domains.{KeepsDomain, LeavesDomain, LeavesOthers}
use Rattle.recording_order.specs.Leasts.{lesser, found_at, one_more, least_from}
use Rattle.recording_order.specs.Numbers.{standing_of, is_at_due, numbers_after, place}
use Rattle.recording_order.specs.declared.datagram_counts.DatagramCounts.{DatagramCounts}
use Rattle.recording_order.specs.declared.least.Least.{Least}
use Rattle.recording_order.specs.declared.numbering.Numbering.{Numbering}
use Rattle.recording_order.specs.declared.numbering.Standing.{Standing}
use Rattle.recording_order.specs.declared.numbering.Standing.TheVariants.{AtOnce, Ahead, Afar}
use Rattle.recording_order.specs.declared.offer.Offer.{Offer}
use Rattle.recording_order.specs.declared.offer.Offer.TheVariants.{Write, Waits, Doubled, First, Anew}
use Rattle.recording_order.specs.Windows.{WindowView, Offered, numbering, renumbered, due_number, counted, with_doubled, with_reordered, one_doubled, one_reordered, passing, least, without, leaving, ripe, is_ripe, if_ripe, next_of, least_in, with_last, held, has_room, is_doubled, now, first_or, offered_full, offered_as, offered, noted, after_writing}
use Rattle.recording_order.specs.Releases.{Came, Run, Says, answered, hand_on, go_on, empty_with, empty, begin_anew, take_offered, take_with, take_run, settle_with, settle, step}

-- ---- one of another domain

other : (e d : ℕ) (x : Arrival) → e ≢ d → is_in d x ≡ true → is_in e x ≡ false
other e d x apart here =
    let same : x.header.domain ≡ d = eqb-true x.header.domain d here in
    ne_eqb x.header.domain e (λ h. apart (sym h ∙ same))

filter-remove : (p : Arrival → Bool) (xs : List Arrival) (i : ℕ) (x : Arrival) → slice_get xs i ≡ Some x → p x ≡ false → filter p (remove xs i) ≡ filter p xs
filter-remove p [] i x there fails = absurd cc
filter-remove p (y ∷ ys) zero x there fails =
    let same : y ≡ x = cc in
    let not_y : p y ≡ false = ap p same ∙ fails in
    rw not_y refl
filter-remove p (y ∷ ys) (suc i) x there fails = ap (λ (zs : List Arrival). cond (p y) (y ∷ zs) zs) (filter-remove p ys i x there fails)

filter-push : (p : Arrival → Bool) (xs : List Arrival) (x : Arrival) → p x ≡ false → filter p (xs ++ x ∷ []) ≡ filter p xs
filter-push p xs x fails =
    let one : filter p (x ∷ []) ≡ [] = rw fails refl in
    filter-append p xs (x ∷ []) ∙ ap (λ (ys : List Arrival). filter p xs ++ ys) one ∙ append-nil (filter p xs)

lookup-other : (e d : ℕ) (n : Numbering) (es : List (ℕ × Numbering)) → e ≢ d → lookup (eqb e) (insert_entry eqb es d n) ≡ lookup (eqb e) es
lookup-other e d n [] apart = rw (ne_eqb e d apart) refl
lookup-other e d n (x ∷ xs) apart =
    elim (eqb_tells d x.0) [
      | inl here ↦
          let not_x : eqb e x.0 ≡ false = ne_eqb e x.0 (λ h. apart (h ∙ sym here.1)) in
          rw (here.0, not_x) refl
      | inr there ↦ rw there.0 (ap (λ (o : Option Numbering). cond (eqb e x.0) (Some x.1) o) (lookup-other e d n xs apart))
    ]

-- ---- what is kept of it

keeps-all : (e : ℕ) (w : WindowView) → KeepsDomain e w w
keeps-all e w = record { numbers = refl; waiting = refl }

keeps-both : (e : ℕ) (u v w : WindowView) → KeepsDomain e u v → KeepsDomain e v w → KeepsDomain e u w
keeps-both e u v w p q = record { numbers = q.numbers ∙ p.numbers; waiting = q.waiting ∙ p.waiting }

keeps-either : (e : ℕ) (u : WindowView) (b : Bool) (v w : WindowView) → KeepsDomain e u v → KeepsDomain e u w → KeepsDomain e u (cond b v w)
keeps-either e u true v w p q = p
keeps-either e u false v w p q = q

counted-keeps : (e d : ℕ) (w : WindowView) (o : Option Numbering) → e ≢ d → KeepsDomain e w (counted w d o)
counted-keeps e d w None apart = keeps-all e w
counted-keeps e d w (Some n) apart = record { numbers = lookup-other e d n w.numbers apart; waiting = refl }

passing-keeps : (e d : ℕ) (w : WindowView) (xs : List Arrival) → e ≢ d → KeepsDomain e w (passing w d xs)
passing-keeps e d w xs apart =
    keeps-either e w (list_any (is_in d) xs) (with_reordered w d) w (counted-keeps e d w (option_map one_reordered (numbering w d)) apart) (keeps-all e w)

writing-keeps : (e d : ℕ) (w : WindowView) (a : Arrival) (c : DatagramCounts) → e ≢ d → is_in d a ≡ true → KeepsDomain e w (after_writing w a c)
writing-keeps e d w a c apart here =
    let n = numbering w a.header.domain in
    let after = renumbered w a.header.domain (numbers_after n a.header.sequence c) in
    let own : e ≢ a.header.domain = λ h. apart (h ∙ eqb-true a.header.domain d here) in
    let renumbers : KeepsDomain e w after = record { numbers = lookup-other e a.header.domain (numbers_after n a.header.sequence c) w.numbers own; waiting = refl } in
    let notes : KeepsDomain e w (noted w a n c) = keeps-either e w (is_at_due n a.header.sequence && has_data a.octets) (with_last after a) after (record { numbers = renumbers.numbers; waiting = refl }) renumbers in
    keeps-either e w (eqb w.seconds 0) w (noted w a n c) (keeps-all e w) notes

answered-keeps : (e d : ℕ) (w : WindowView) (a : Arrival) (o : Option DatagramCounts) → e ≢ d → is_in d a ≡ true → KeepsDomain e w (answered w a o)
answered-keeps e d w a None apart here = keeps-all e w
answered-keeps e d w a (Some c) apart here = writing-keeps e d w a c apart here

-- ---- the least of a domain is in it

abbrev Has : ℕ → List Arrival → Option Least → Type 0
Has d all None = Unit {0}
Has d all (Some l) = (x : Arrival) × (slice_get all l.index ≡ Some x) × (is_in d x ≡ true)

at-length : (front : List Arrival) (a : Arrival) (xs : List Arrival) → slice_get (front ++ a ∷ xs) (length front) ≡ Some a
at-length [] a xs = refl
at-length (x ∷ front) a xs = at-length front a xs

has-lesser : (d : ℕ) (all : List Arrival) (o : Option Least) (l : Least) → Has d all o → Has d all (Some l) → Has d all (lesser o l)
has-lesser d all None l has here = here
has-lesser d all (Some k) l has here = by_test (leb k.place l.place)
  where
    by_test : (b : Bool) → Has d all (cond b (Some k) (Some l))
    by_test true = has
    by_test false = here

has-one_more : (d due index : ℕ) (all : List Arrival) (o : Option Least) (a : Arrival) → Has d all o → slice_get all index ≡ Some a → Has d all (one_more d due index o a)
has-one_more d due index all o a has there = by_test (is_in d a) refl
  where
    by_test : (b : Bool) → is_in d a ≡ b → Has d all (cond b (lesser o (found_at index due a)) o)
    by_test true here = has-lesser d all o (found_at index due a) has (a, there, here)
    by_test false here = has

has-least : (d due : ℕ) (all front : List Arrival) (index : ℕ) (o : Option Least) (xs : List Arrival) → all ≡ front ++ xs → index ≡ length front → Has d all o → Has d all (least_from d due index o xs)
has-least d due all front index o [] whole at has = has
has-least d due all front index o (a ∷ xs) whole at has =
    let there : slice_get all index ≡ Some a = rw (whole, at) (at-length front a xs) in
    has-least d due all (front ++ a ∷ []) (index + 1) (one_more d due index o a) xs (whole ∙ sym (append_assoc front (a ∷ []) xs)) (omega (arith, length-append front (a ∷ []))) (has-one_more d due index all o a has there)

least-has : (w : WindowView) (d : ℕ) → Has d w.waiting (least w d)
least-has w d = has-least d (due_number w d) w.waiting [] 0 None w.waiting refl refl tt

-- ---- what leaves is of the domain

abbrev Goes : ℕ → ℕ → WindowView → Option (Arrival × WindowView) → Type 0
Goes e d w None = Unit {0}
Goes e d w (Some x) = (is_in d x.0 ≡ true) × KeepsDomain e w x.1

leaving-goes : (e d : ℕ) (w : WindowView) (o : Option Least) → e ≢ d → Has d w.waiting o → Goes e d w (leaving w o)
leaving-goes e d w None apart has = tt
leaving-goes e d w (Some l) apart has =
    let x = has.0 in
    let left : WindowView = record w { waiting = remove w.waiting l.index } in
    let own : e ≢ x.header.domain = λ h. apart (h ∙ eqb-true x.header.domain d has.2) in
    let removes : KeepsDomain e w left = record { numbers = refl; waiting = filter-remove (is_in e) w.waiting l.index x has.1 (other e d x apart has.2) } in
    rw has.1 (has.2, keeps-both e w left (without w l.index x) removes (passing-keeps e x.header.domain left (take l.index w.waiting) own))

ripe-has : (w : WindowView) (d second : ℕ) → Has d w.waiting (ripe w d second)
ripe-has w d second = by_least (least w d) (least-has w d)
  where
    by_test : (l : Least) (b : Bool) → Has d w.waiting (Some l) → Has d w.waiting (cond b (Some l) None)
    by_test l true has = has
    by_test l false has = tt

    by_least : (o : Option Least) → Has d w.waiting o → Has d w.waiting (if_ripe w d second o)
    by_least None has = tt
    by_least (Some l) has = by_test l (is_ripe w d second l) has

-- ---- what is done with one that comes

abbrev Offers : ℕ → ℕ → WindowView → Offered → Type 0
Offers e d w o = elim o.0 [
  | Write ↦ KeepsDomain e w o.1
  | Waits ↦ KeepsDomain e w o.1
  | Doubled ↦ KeepsDomain e w o.1
  | First b ↦ (is_in d b ≡ true) × KeepsDomain e w o.1
  | Anew ↦ KeepsDomain e w o.1
]

offers-either : (e d : ℕ) (w : WindowView) (b : Bool) (x y : Offered) → Offers e d w x → Offers e d w y → Offers e d w (cond b x y)
offers-either e d w true x y p q = p
offers-either e d w false x y p q = q

offers-first : (e d : ℕ) (w : WindowView) (o : Option (Arrival × WindowView)) → e ≢ d → Goes e d w o → Offers e d w (first_or (now w d) o)
offers-first e d w None apart goes = passing-keeps e d w w.waiting apart
offers-first e d w (Some x) apart goes = goes

offers-full : (e : ℕ) (w : WindowView) (a : Arrival) (o : Option Least) → e ≢ a.header.domain → Has a.header.domain w.waiting o → Offers e a.header.domain w (offered_full w a.header o)
offers-full e w a None apart has = passing-keeps e a.header.domain w w.waiting apart
offers-full e w a (Some l) apart has =
    let d = a.header.domain in
    offers-either e d w (leb l.place (place (due_number w d) a.header.sequence)) (first_or (now w d) (leaving w (Some l))) (now w d)
    (offers-first e d w (leaving w (Some l)) apart (leaving-goes e d w (Some l) apart has)) (passing-keeps e d w w.waiting apart)

offers-as : (e : ℕ) (w : WindowView) (a : Arrival) (s : Standing) → e ≢ a.header.domain → Offers e a.header.domain w (offered_as w a s)
offers-as e w a AtOnce apart = passing-keeps e a.header.domain w w.waiting apart
offers-as e w a Ahead apart =
    let d = a.header.domain in
    let fails : is_in e a ≡ false = ne_eqb d e (λ h. apart (sym h)) in
    offers-either e d w (has_room w d (length a.octets)) (Waits, held w a) (offered_full w a.header (least w d))
    (record { numbers = refl; waiting = filter-push (is_in e) w.waiting a fails }) (offers-full e w a (least w d) apart (least-has w d))
offers-as e w a Afar apart = keeps-all e w

offered-offers : (e : ℕ) (w : WindowView) (a : Arrival) → e ≢ a.header.domain → Offers e a.header.domain w (offered w a)
offered-offers e w a apart =
    let d = a.header.domain in
    let s = standing_of (numbering w d) a.header.sequence in
    let doubled : Offered = (Doubled, with_doubled w d) in
    offers-either e d w (eqb w.seconds 0) (Write, w) (cond (is_doubled w d a.octets) doubled (offered_as w a s)) (keeps-all e w)
    (offers-either e d w (is_doubled w d a.octets) doubled (offered_as w a s)
    (counted-keeps e d w (option_map one_doubled (numbering w d)) apart) (offers-as e w a s apart))

-- ---- a run

leaves-none : (e : ℕ) (r : Run) → LeavesDomain e r r
leaves-none e r = record { window = keeps-all e r.window; handed_on = refl; doubled = refl }

leaves-both : (e : ℕ) (r s t : Run) → LeavesDomain e r s → LeavesDomain e s t → LeavesDomain e r t
leaves-both e r s t p q = record { window = keeps-both e r.window s.window t.window p.window q.window; handed_on = q.handed_on ∙ p.handed_on; doubled = q.doubled ∙ p.doubled }

hand_on-leaves : (e d : ℕ) (says : Says) (a : Arrival) (w : WindowView) (r : Run) → e ≢ d → is_in d a ≡ true → KeepsDomain e r.window w → LeavesDomain e r (hand_on says a w r)
hand_on-leaves e d says a w r apart here keeps =
    let c = says (length r.handed_on) in
    record { window = keeps-both e r.window w (answered w a c) keeps (answered-keeps e d w a c apart here); handed_on = filter-push (is_in e) r.handed_on a (other e d a apart here); doubled = refl }

go_on-leaves : (e d : ℕ) (says : Says) (again : Run → Run) (r : Run) (o : Option (Arrival × WindowView)) → e ≢ d → Goes e d r.window o → ((s : Run) → LeavesDomain e s (again s)) → LeavesDomain e r (go_on again says r o)
go_on-leaves e d says again r None apart goes more = leaves-none e r
go_on-leaves e d says again r (Some x) apart goes more =
    let s = hand_on says x.0 x.1 r in
    leaves-both e r s (again s) (hand_on-leaves e d says x.0 x.1 r apart goes.0 goes.1) (more s)

empty_with-leaves : (e d : ℕ) (says : Says) (fuel : ℕ) (r : Run) → e ≢ d → LeavesDomain e r (empty_with says d fuel r)
empty_with-leaves e d says zero r apart = leaves-none e r
empty_with-leaves e d says (suc fuel) r apart =
    go_on-leaves e d says (empty_with says d fuel) r (least_in r.window d) apart (leaving-goes e d r.window (least r.window d) apart (least-has r.window d)) (λ s. empty_with-leaves e d says fuel s apart)

settle_with-leaves : (e d second : ℕ) (says : Says) (fuel : ℕ) (r : Run) → e ≢ d → LeavesDomain e r (settle_with says d second fuel r)
settle_with-leaves e d second says zero r apart = leaves-none e r
settle_with-leaves e d second says (suc fuel) r apart =
    go_on-leaves e d says (settle_with says d second fuel) r (next_of r.window d second) apart (leaving-goes e d r.window (ripe r.window d second) apart (ripe-has r.window d second)) (λ s. settle_with-leaves e d second says fuel s apart)

itself : (a : Arrival) → is_in a.header.domain a ≡ true
itself a = eq-eqb a.header.domain a.header.domain refl

anew-leaves : (e : ℕ) (says : Says) (a : Arrival) (r : Run) → e ≢ a.header.domain → LeavesDomain e r (begin_anew says a r)
anew-leaves e says a r apart =
    let d = a.header.domain in
    let s = empty says d r in
    leaves-both e r s (hand_on says a s.window s) (empty_with-leaves e d says (length r.window.waiting) r apart) (hand_on-leaves e d says a s.window s apart (itself a) (keeps-all e s.window))

take_offered-leaves : (e : ℕ) (says : Says) (a : Arrival) (again : Run → Run) (r : Run) (o : Offer) (w : WindowView) → e ≢ a.header.domain → Offers e a.header.domain r.window (o, w)
    → ((s : Run) → LeavesDomain e s (again s)) → LeavesDomain e r (take_offered says a again r (o, w))
take_offered-leaves e says a again r Write w apart offers more = hand_on-leaves e a.header.domain says a w r apart (itself a) offers
take_offered-leaves e says a again r Waits w apart offers more = record { window = offers; handed_on = refl; doubled = refl }
take_offered-leaves e says a again r Doubled w apart offers more =
    record { window = offers; handed_on = refl; doubled = filter-push (is_in e) r.doubled a (other e a.header.domain a apart (itself a)) }
take_offered-leaves e says a again r (First b) w apart offers more =
    let s = hand_on says b w r in
    leaves-both e r s (again s) (hand_on-leaves e a.header.domain says b w r apart offers.0 offers.1) (more s)
take_offered-leaves e says a again r Anew w apart offers more =
    let s : Run = record r { window = w } in
    leaves-both e r s (begin_anew says a s) (record { window = offers; handed_on = refl; doubled = refl }) (anew-leaves e says a s apart)

take_with-leaves : (e : ℕ) (says : Says) (a : Arrival) (fuel : ℕ) (r : Run) → e ≢ a.header.domain → LeavesDomain e r (take_with says a fuel r)
take_with-leaves e says a zero r apart = hand_on-leaves e a.header.domain says a r.window r apart (itself a) (keeps-all e r.window)
take_with-leaves e says a (suc fuel) r apart =
    let o = offered r.window a in
    take_offered-leaves e says a (take_with says a fuel) r o.0 o.1 apart (offered-offers e r.window a apart) (λ s. take_with-leaves e says a fuel s apart)

pub step-leaves : (says : Says) (r : Run) (a : Arrival) → LeavesOthers a.header.domain r (step says r (Came a))
step-leaves says r a e apart =
    let s = take_run says a r in
    leaves-both e r s (settle says a.header.domain a.second s) (take_with-leaves e says a (suc (length r.window.waiting)) r apart) (settle_with-leaves e a.header.domain a.second says (length s.window.waiting) s apart)
