-- A tick, one domain after another, and how many wait then.
use Rattle.std.proofs.Common.{◌≡◌, ℕ, zero, suc, ◌+◌, ◌-◌, ◌<◌, ◌≤◌, Bool, true, false, ltb, cond, Option, Some, None, List, [], ◌∷◌, length, refl, sym, ap, subst, ◌∙◌, arith}
use Rattle.std.specs.Prelude.{is_some, option_map, find}
use Rattle.std.proofs.lemmas.List.{nil_from_length}
use Rattle.recording_order.specs.Arrivals.{Arrival}
use Rattle.recording_order.specs.declared.least.Least.{Least}
use Rattle.recording_order.specs.declared.offer.Offer.TheVariants.{First}
use Rattle.recording_order.specs.Windows.{WindowView, is_late, is_ripe, if_ripe, ripe, least, next_of, least_in, last_of, late_domain, due_number, offered}
use Rattle.recording_order.specs.Releases.{Run, Says, hand_on, go_on, settle_with, settle, settle_late, tick_with, tick}
use Rattle.recording_order.proofs.Bags.{Offers, offered-offers, leaving-left, last_of-left, Left, answered-waiting}
use Rattle.recording_order.proofs.Bounds.{and_second}
use Rattle.recording_order.proofs.Ends.{Goes, goes-least, Below, below-least}
use Rattle.recording_order.proofs.Steps.{ones, sum-ones, handed, settle-next}

-- ---- one that leaves no longer waits

one-left : (w : WindowView) (x : Arrival × WindowView) (o : Option (Arrival × WindowView)) → Left ones w o → o ≡ Some x → length x.1.waiting + 1 ≡ length w.waiting
one-left w x o left is =
    let own : Left ones w (Some x) = subst (Left ones w) is left in
    omega (arith, own, sum-ones x.1.waiting, sum-ones w.waiting)

pub next-fewer : (w : WindowView) (domain second : ℕ) (x : Arrival × WindowView) → next_of w domain second ≡ Some x → length x.1.waiting + 1 ≡ length w.waiting
next-fewer w domain second x is = one-left w x (next_of w domain second) (leaving-left ones w (ripe w domain second)) is

pub least-fewer : (w : WindowView) (domain : ℕ) (x : Arrival × WindowView) → least_in w domain ≡ Some x → length x.1.waiting + 1 ≡ length w.waiting
least-fewer w domain x is = one-left w x (least_in w domain) (leaving-left ones w (least w domain)) is

pub last-fewer : (w : WindowView) (x : Arrival × WindowView) → last_of w w.waiting ≡ Some x → length x.1.waiting + 1 ≡ length w.waiting
last-fewer w x is = one-left w x (last_of w w.waiting) (last_of-left ones w w.waiting) is

pub first-fewer : (w : WindowView) (a b : Arrival) (v : WindowView) → offered w a ≡ (First b, v) → length v.waiting + 1 ≡ length w.waiting
first-fewer w a b v is = one-left w (b, v) (Some (b, v)) (subst (Offers ones w a) is (offered-offers ones w a)) refl

pub handed-waiting : (says : Says) (a : Arrival) (w : WindowView) (r : Run) → (hand_on says a w r).window.waiting ≡ w.waiting
handed-waiting says a w r = answered-waiting w a (says (length r.handed_on))

-- ---- where the time of one is over, one leaves

ripe-below : (w : WindowView) (domain second : ℕ) (l : Least) → ripe w domain second ≡ Some l → l.index < length w.waiting
ripe-below w domain second l is = by_least (least w domain) (below-least domain (due_number w domain) 0 None w.waiting tt) is
  where
    by_test : (k : Least) (b : Bool) → k.index < length w.waiting → cond b (Some k) None ≡ Some l → l.index < length w.waiting
    by_test k true below same = let own : k ≡ l = cc in subst (λ (m : Least). m.index < length w.waiting) own below
    by_test k false below same = absurd cc

    by_least : (o : Option Least) → Below (0 + length w.waiting) o → if_ripe w domain second o ≡ Some l → l.index < length w.waiting
    by_least None below same = absurd cc
    by_least (Some k) below same = by_test k (is_ripe w domain second k) (omega (arith, below)) same

goes-ripe : (w : WindowView) (domain second : ℕ) (o : Option Least) → ripe w domain second ≡ o → is_some o ≡ true → Goes w (next_of w domain second)
goes-ripe w domain second None is some = absurd cc
goes-ripe w domain second (Some l) is some = goes-least w l (ripe w domain second) is (ripe-below w domain second l is)

-- the domain of the first that is late
late-ready : (w : WindowView) (second domain : ℕ) (xs : List Arrival) → option_map (λ (a : Arrival). a.header.domain) (find (is_late w second) xs) ≡ Some domain → is_some (ripe w domain second) ≡ true
late-ready w second domain [] is = absurd cc
late-ready w second domain (a ∷ xs) is = by_test (late-ready w second domain xs) (is_late w second a) refl is
  where
    by_test : (option_map (λ (x : Arrival). x.header.domain) (find (is_late w second) xs) ≡ Some domain → is_some (ripe w domain second) ≡ true) → (b : Bool) → is_late w second a ≡ b → option_map (λ (x : Arrival). x.header.domain) (cond b (Some a) (find (is_late w second) xs)) ≡ Some domain → is_some (ripe w domain second) ≡ true
    by_test more true late same =
        let own : a.header.domain ≡ domain = cc in
        subst (λ (d : ℕ). is_some (ripe w d second) ≡ true) own (and_second (ltb w.seconds (second - a.second)) (is_some (ripe w a.header.domain second)) late)
    by_test more false other same = more same

go_on-few : (says : Says) (again : Run → Run) (r : Run) (o : Option (Arrival × WindowView)) → Left ones r.window o → ((s : Run) → length (again s).window.waiting ≤ length s.window.waiting) → length (go_on again says r o).window.waiting ≤ length r.window.waiting
go_on-few says again r None left few = omega arith
go_on-few says again r (Some x) left few =
    let after = hand_on says x.0 x.1 r in
    omega (arith, handed says x r left, few after)

settle_with-few : (says : Says) (domain second fuel : ℕ) (r : Run) → length (settle_with says domain second fuel r).window.waiting ≤ length r.window.waiting
settle_with-few says domain second zero r = omega arith
settle_with-few says domain second (suc fuel) r =
    go_on-few says (settle_with says domain second fuel) r (next_of r.window domain second) (leaving-left ones r.window (ripe r.window domain second)) (settle_with-few says domain second fuel)

pub late-fewer : (says : Says) (second domain : ℕ) (r : Run) → late_domain r.window second ≡ Some domain → length (settle says domain second r).window.waiting < length r.window.waiting
late-fewer says second domain r is =
    let ready = late-ready r.window second domain r.window.waiting is in
    let goes : Goes r.window (next_of r.window domain second) = goes-ripe r.window domain second (ripe r.window domain second) refl ready in
    let after = hand_on says goes.left.0 goes.left.1 r in
    let same = ap (λ (s : Run). length s.window.waiting) (settle-next says domain second r goes.left goes.is) in
    let own = ap length (handed-waiting says goes.left.0 goes.left.1 r) in
    omega (arith, same, own, goes.fewer, settle_with-few says domain second (length after.window.waiting) after)

-- ---- so the tick goes on

pub late-none : (w : WindowView) (second : ℕ) → w.waiting ≡ [] → late_domain w second ≡ None
late-none w second none = rw none refl

pub next-none : (w : WindowView) (domain second : ℕ) → w.waiting ≡ [] → next_of w domain second ≡ None
next-none w domain second none = rw none refl

pub least-none : (w : WindowView) (domain : ℕ) → w.waiting ≡ [] → least_in w domain ≡ None
least-none w domain none = rw none refl

tick_with-done : (says : Says) (second fuel : ℕ) (r : Run) → late_domain r.window second ≡ None → tick_with says second fuel r ≡ r
tick_with-done says second zero r is = refl
tick_with-done says second (suc fuel) r is = ap (settle_late (tick_with says second fuel) says second r) is

tick-done : (says : Says) (second : ℕ) (r : Run) → late_domain r.window second ≡ None → tick says second r ≡ r
tick-done says second r is = tick_with-done says second (length r.window.waiting) r is

-- any number of rounds is enough that is as great as the number of those that wait
enough : (says : Says) (second n m : ℕ) (r : Run) → length r.window.waiting ≤ n → length r.window.waiting ≤ m → tick_with says second n r ≡ tick_with says second m r
enough says second zero m r few fewer =
    sym (tick_with-done says second m r (late-none r.window second (nil_from_length r.window.waiting (omega (arith, few)))))
enough says second (suc n) zero r few fewer =
    tick_with-done says second (suc n) r (late-none r.window second (nil_from_length r.window.waiting (omega (arith, fewer))))
enough says second (suc n) (suc m) r few fewer =
    by_domain
    (λ domain is.
    let less = late-fewer says second domain r is in
    enough says second n m (settle says domain second r) (omega (arith, few, less)) (omega (arith, fewer, less)))
    (late_domain r.window second) refl
  where
    by_domain : ((domain : ℕ) → late_domain r.window second ≡ Some domain → tick_with says second n (settle says domain second r) ≡ tick_with says second m (settle says domain second r)) → (o : Option ℕ) → late_domain r.window second ≡ o → settle_late (tick_with says second n) says second r o ≡ settle_late (tick_with says second m) says second r o
    by_domain again None is = refl
    by_domain again (Some domain) is = again domain is

tick-late : (says : Says) (second domain : ℕ) (r : Run) → late_domain r.window second ≡ Some domain → tick says second r ≡ tick says second (settle says domain second r)
tick-late says second domain r is =
    let n = length r.window.waiting in
    let s = settle says domain second r in
    let less = late-fewer says second domain r is in
    enough says second n (suc n) r (omega arith) (omega arith)
    ∙ ap (settle_late (tick_with says second n) says second r) is
    ∙ enough says second n (length s.window.waiting) s (omega (arith, less)) (omega arith)

-- where a domain is late it is settled, and where none is all is done
pub tick-on : (says : Says) (second : ℕ) (r : Run) → tick says second r ≡ settle_late (tick says second) says second r (late_domain r.window second)
tick-on says second r = by_domain (late_domain r.window second) refl
  where
    by_domain : (o : Option ℕ) → late_domain r.window second ≡ o → tick says second r ≡ settle_late (tick says second) says second r o
    by_domain None is = tick-done says second r is
    by_domain (Some domain) is = tick-late says second domain r is
