-- Datagrams that come in their order are handed on as they came.
use Rattle.std.proofs.Common.{◌≡◌, ℕ, Bool, true, false, eqb, cond, Option, Some, None, List, [], ◌∷◌, ◌++◌, length, refl, sym, ap, subst, ◌∙◌, append_assoc}
use Rattle.std.proofs.lemmas.List.{append-nil}
use Rattle.recording_order.specs.Arrivals.{Arrival}
use Rattle.recording_order.specs.Numbers.{standing_of}
use Rattle.recording_order.specs.declared.datagram_counts.DatagramCounts.{DatagramCounts}
use Rattle.recording_order.specs.declared.numbering.Standing.{Standing}
use Rattle.recording_order.specs.declared.numbering.Standing.TheVariants.{AtOnce}
use Rattle.recording_order.specs.declared.offer.Offer.TheVariants.{Write, Doubled}
use Rattle.recording_order.specs.Windows.{WindowView, numbering, is_doubled, with_doubled, now, passing, offered, offered_as}
use Rattle.recording_order.specs.Releases.{Event, Came, Tick, Run, Says, came, answered, hand_on, take_offered, take_with, take_run, settle_with, settle, tick, tick_with, finish, finish_with, step, run_from, start, run, released}
use Rattle.recording_order.specs.InOrder.{IsNext, AreNext}
use Rattle.recording_order.proofs.Bags.{answered-waiting}

-- where nothing waits, it is handed on, and nothing else is changed
offered-next : (w : WindowView) (a : Arrival) → w.waiting ≡ [] → IsNext w a → offered w a ≡ (Write, w)
offered-next w a none next = by_tests (eqb w.seconds 0) (is_doubled w a.header.domain a.octets) (standing_of (numbering w a.header.domain) a.header.sequence) next.new next.stands
  where
    now-is : now w a.header.domain ≡ (Write, w)
    now-is = ap (λ (xs : List Arrival). (Write, passing w a.header.domain xs)) none

    by_tests : (b d : Bool) (s : Standing) → d ≡ false → s ≡ AtOnce → cond b (Write, w) (cond d (Doubled, with_doubled w a.header.domain) (offered_as w a s)) ≡ (Write, w)
    by_tests true d s new stands = refl
    by_tests false d s new stands = rw (new, stands) now-is

-- one step hands it on
record Grows (r after : Run) (a : Arrival) : Type 0 where
  handed_on : after.handed_on ≡ r.handed_on ++ a ∷ []
  waiting : after.window.waiting ≡ []

settle-none : (says : Says) (domain second : ℕ) (r : Run) → r.window.waiting ≡ [] → settle says domain second r ≡ r
settle-none says domain second r none = ap (λ (xs : List Arrival). settle_with says domain second (length xs) r) none

tick-none : (says : Says) (second : ℕ) (r : Run) → r.window.waiting ≡ [] → tick says second r ≡ r
tick-none says second r none = ap (λ (xs : List Arrival). tick_with says second (length xs) r) none

finish-nothing : (says : Says) (r : Run) → r.window.waiting ≡ [] → finish says r ≡ r
finish-nothing says r none = ap (λ (xs : List Arrival). finish_with says (length xs) r) none

step-next : (says : Says) (r : Run) (a : Arrival) → r.window.waiting ≡ [] → IsNext r.window a → Grows r (step says r (Came a)) a
step-next says r a none next =
    let after = hand_on says a r.window r in
    let here : take_run says a r ≡ after = ap (take_offered says a (take_with says a (length r.window.waiting)) r) (offered-next r.window a none next) in
    let waits : after.window.waiting ≡ [] = answered-waiting r.window a (says (length r.handed_on)) ∙ none in
    let whole : step says r (Came a) ≡ after = ap (settle says a.header.domain a.second) here ∙ settle-none says a.header.domain a.second after waits in
    subst (λ (s : Run). Grows r s a) (sym whole) (record { handed_on = refl; waiting = waits })

record HandedOn (r after : Run) (xs : List Arrival) : Type 0 where
  handed_on : after.handed_on ≡ r.handed_on ++ xs
  waiting : after.window.waiting ≡ []

run_from-next : (says : Says) (r : Run) (es : List Event) → r.window.waiting ≡ [] → AreNext says r es → HandedOn r (run_from says r es) (came es)
run_from-next says r [] none next = record { handed_on = sym (append-nil r.handed_on); waiting = none }
run_from-next says r (Came a ∷ es) none next =
    let one = step-next says r a none next.0 in
    let rest = run_from-next says (step says r (Came a)) es one.waiting next.1 in
    record { handed_on = rest.handed_on ∙ ap (λ (xs : List Arrival). xs ++ came es) one.handed_on ∙ append_assoc r.handed_on (a ∷ []) (came es); waiting = rest.waiting }
run_from-next says r (Tick second ∷ es) none next =
    let same = tick-none says second r none in
    subst (λ (s : Run). HandedOn r (run_from says s es) (came es)) (sym same) (run_from-next says r es none (subst (λ (s : Run). AreNext says s es) same next))

pub released-next : (says : Says) (seconds : ℕ) (es : List Event) → AreNext says (start seconds) es → released says seconds es ≡ came es
released-next says seconds es next =
    let all = run_from-next says (start seconds) es refl next in
    ap (λ (r : Run). r.handed_on) (finish-nothing says (run says seconds es) all.waiting) ∙ all.handed_on

-- ---- with no seconds

answered-none : (a : Arrival) (o : Option DatagramCounts) → answered (start 0).window a o ≡ (start 0).window
answered-none a None = refl
answered-none a (Some c) = refl

run_from-none : (says : Says) (r : Run) (es : List Event) → r.window ≡ (start 0).window → HandedOn r (run_from says r es) (came es)
run_from-none says r [] at = record { handed_on = sym (append-nil r.handed_on); waiting = ap (λ (w : WindowView). w.waiting) at }
run_from-none says r (Came a ∷ es) at =
    let after = hand_on says a (start 0).window r in
    let here : step says r (Came a) ≡ settle says a.header.domain a.second after = ap (λ (w : WindowView). step says (record r { window = w }) (Came a)) at in
    let same : after.window ≡ (start 0).window = answered-none a (says (length r.handed_on)) in
    let whole : step says r (Came a) ≡ after = here ∙ settle-none says a.header.domain a.second after (ap (λ (w : WindowView). w.waiting) same) in
    let rest = run_from-none says after es same in
    subst (λ (s : Run). HandedOn r (run_from says s es) (a ∷ came es)) (sym whole)
    (record { handed_on = rest.handed_on ∙ append_assoc r.handed_on (a ∷ []) (came es); waiting = rest.waiting })
run_from-none says r (Tick second ∷ es) at =
    subst (λ (s : Run). HandedOn r (run_from says s es) (came es)) (sym (tick-none says second r (ap (λ (w : WindowView). w.waiting) at))) (run_from-none says r es at)

pub released-none : (says : Says) (es : List Event) → released says 0 es ≡ came es
released-none says es =
    let all = run_from-none says (start 0) es refl in
    ap (λ (r : Run). r.handed_on) (finish-nothing says (run says 0 es) all.waiting) ∙ all.handed_on
