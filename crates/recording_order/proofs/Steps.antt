-- A run, one datagram that is handed on after another.
use Rattle.std.proofs.Common.{◌≡◌, ℕ, zero, suc, ◌+◌, Option, Some, None, List, [], ◌∷◌, length, refl, sym, ap, subst, ◌∙◌, arith}
use Rattle.std.specs.Prelude.{sum_by}
use Rattle.std.proofs.lemmas.List.Sums.{sum_by-cons}
use Rattle.recording_order.specs.Arrivals.{Arrival}
use Rattle.recording_order.specs.declared.offer.Offer.TheVariants.{First}
use Rattle.recording_order.specs.Windows.{WindowView, least, ripe, next_of, least_in, last_of, offered}
use Rattle.recording_order.specs.Releases.{HandsOnEach, Run, Says, hand_on, go_on, empty_with, empty, take_offered, take_with, take_run, settle_with, settle, finish_with, finish}
use Rattle.recording_order.proofs.Bags.{Left, leaving-left, last_of-left, Offers, offered-offers, answered-waiting}

-- each counts one
abbrev pub ones : Arrival → ℕ
ones a = 1

pub sum-ones : (xs : List Arrival) → sum_by ones xs ≡ length xs
sum-ones [] = refl
sum-ones (x ∷ xs) = let more = sum-ones xs in omega (arith, sum_by-cons ones x xs, more)

-- one fewer waits once one is handed on
pub handed : (says : Says) (x : Arrival × WindowView) (r : Run) → sum_by ones x.1.waiting + 1 ≡ sum_by ones r.window.waiting → suc (length (hand_on says x.0 x.1 r).window.waiting) ≡ length r.window.waiting
handed says x r left =
    let same = ap length (answered-waiting x.1 x.0 (says (length r.handed_on))) in
    omega (arith, left, same, sum-ones x.1.waiting, sum-ones r.window.waiting)

-- by any steps that hand one on, as many as wait
stepped : (again : ℕ → Run → Run) (out : Run → Option (Arrival × WindowView)) (says : Says) (r : Run) (x : Arrival × WindowView)
    → ((fuel : ℕ) (s : Run) → again (suc fuel) s ≡ go_on (again fuel) says s (out s)) → Left ones r.window (out r) → out r ≡ Some x
    → again (length r.window.waiting) r ≡ again (length (hand_on says x.0 x.1 r).window.waiting) (hand_on says x.0 x.1 r)
stepped again out says r x steps left is =
    let after = hand_on says x.0 x.1 r in
    let fewer = handed says x r (subst (Left ones r.window) is left) in
    ap (λ (n : ℕ). again n r) (sym fewer) ∙ steps (length after.window.waiting) r ∙ ap (go_on (again (length after.window.waiting)) says r) is

stopped : (again : ℕ → Run → Run) (out : Run → Option (Arrival × WindowView)) (says : Says) (r : Run)
    → ((fuel : ℕ) (s : Run) → again (suc fuel) s ≡ go_on (again fuel) says s (out s)) → ((s : Run) → again 0 s ≡ s) → out r ≡ None → (fuel : ℕ) → again fuel r ≡ r
stopped again out says r steps none is zero = none r
stopped again out says r steps none is (suc fuel) = steps fuel r ∙ ap (go_on (again fuel) says r) is

pub settle-next : (says : Says) (domain second : ℕ) (r : Run) (x : Arrival × WindowView) → next_of r.window domain second ≡ Some x → settle says domain second r ≡ settle says domain second (hand_on says x.0 x.1 r)
settle-next says domain second r x is =
    stepped (settle_with says domain second) (λ s. next_of s.window domain second) says r x (λ fuel s. refl) (leaving-left ones r.window (ripe r.window domain second)) is

settle-done : (says : Says) (domain second : ℕ) (r : Run) → next_of r.window domain second ≡ None → settle says domain second r ≡ r
settle-done says domain second r is =
    stopped (settle_with says domain second) (λ s. next_of s.window domain second) says r (λ fuel s. refl) (λ s. refl) is (length r.window.waiting)

empty-next : (says : Says) (domain : ℕ) (r : Run) (x : Arrival × WindowView) → least_in r.window domain ≡ Some x → empty says domain r ≡ empty says domain (hand_on says x.0 x.1 r)
empty-next says domain r x is =
    stepped (empty_with says domain) (λ s. least_in s.window domain) says r x (λ fuel s. refl) (leaving-left ones r.window (least r.window domain)) is

empty-done : (says : Says) (domain : ℕ) (r : Run) → least_in r.window domain ≡ None → empty says domain r ≡ r
empty-done says domain r is =
    stopped (empty_with says domain) (λ s. least_in s.window domain) says r (λ fuel s. refl) (λ s. refl) is (length r.window.waiting)

finish-next : (says : Says) (r : Run) (x : Arrival × WindowView) → last_of r.window r.window.waiting ≡ Some x → finish says r ≡ finish says (hand_on says x.0 x.1 r)
finish-next says r x is =
    stepped (finish_with says) (λ s. last_of s.window s.window.waiting) says r x (λ fuel s. refl) (last_of-left ones r.window r.window.waiting) is

finish-done : (says : Says) (r : Run) → last_of r.window r.window.waiting ≡ None → finish says r ≡ r
finish-done says r is =
    stopped (finish_with says) (λ s. last_of s.window s.window.waiting) says r (λ fuel s. refl) (λ s. refl) is (length r.window.waiting)

-- where another is first, it is offered again after that
pub take-first : (says : Says) (a : Arrival) (r : Run) (b : Arrival) (w : WindowView) → offered r.window a ≡ (First b, w) → take_run says a r ≡ take_run says a (hand_on says b w r)
take-first says a r b w is =
    let left : sum_by ones w.waiting + 1 ≡ sum_by ones r.window.waiting = subst (Offers ones r.window a) is (offered-offers ones r.window a) in
    let fewer = handed says (b, w) r left in
    ap (take_offered says a (take_with says a (length r.window.waiting)) r) is
    ∙ ap (λ (n : ℕ). take_with says a n (hand_on says b w r)) (sym fewer)

-- where one leaves it is handed on, and where none does all is done
handed-on : (again : Run → Run) (says : Says) (r : Run) (o : Option (Arrival × WindowView)) → ((x : Arrival × WindowView) → o ≡ Some x → again r ≡ again (hand_on says x.0 x.1 r)) → (o ≡ None → again r ≡ r) → again r ≡ go_on again says r o
handed-on again says r None some none = none refl
handed-on again says r (Some x) some none = some x refl

pub settle-on : (domain second : ℕ) → HandsOnEach (λ says. settle says domain second) (λ w. next_of w domain second)
settle-on domain second = λ says r. handed-on (settle says domain second) says r (next_of r.window domain second) (settle-next says domain second r) (settle-done says domain second r)

pub empty-on : (domain : ℕ) → HandsOnEach (λ says. empty says domain) (λ w. least_in w domain)
empty-on domain = λ says r. handed-on (empty says domain) says r (least_in r.window domain) (empty-next says domain r) (empty-done says domain r)

pub finish-on : HandsOnEach finish (λ w. last_of w w.waiting)
finish-on = λ says r. handed-on (finish says) says r (last_of r.window r.window.waiting) (finish-next says r) (finish-done says r)
