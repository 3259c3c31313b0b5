-- At the end nothing waits.
use Rattle.std.proofs.Common.{◌≡◌, ℕ, zero, suc, ◌+◌, ◌<◌, ◌≤◌, Bool, true, false, leb, cond, Option, Some, None, List, [], ◌∷◌, length, take, refl, sym, ap, subst, ◌∙◌, arith, inl, inr}
use Rattle.std.specs.Prelude.{sum_by, remove}
use Rattle.std.proofs.lemmas.Bool.{eq-eqb}
use Rattle.std.proofs.lemmas.List.{nil_from_length}
use Rattle.std.proofs.lemmas.List.Edits.{length-remove}
use Rattle.std.proofs.lemmas.Option.{slice_get_cases}
use Rattle.recording_order.specs.Arrivals.{Arrival, is_in}
use Rattle.recording_order.specs.Leasts.{lesser, found_at, one_more, least_from, least_of}
use Rattle.recording_order.specs.declared.least.Least.{Least}
use Rattle.recording_order.specs.Windows.{WindowView, due_number, least, without, leaving, last_of}
use Rattle.recording_order.specs.Releases.{Run, Says, Event, hand_on, go_on, finish_with, finish, run, came, released}
use Rattle.recording_order.proofs.Bags.{passing-waiting, answered-waiting, all_that_came, finish-bag}

-- ---- where one of a domain waits, there is a least one

-- it stands below an index
abbrev pub Below : ℕ → Option Least → Type 0
Below n None = Unit {0}
Below n (Some l) = l.index < n

below-more : (n m : ℕ) (o : Option Least) → n ≤ m → Below n o → Below m o
below-more n m None le below = tt
below-more n m (Some l) le below = omega arith

below-lesser : (n : ℕ) (o : Option Least) (l : Least) → Below n o → l.index < n → Below n (lesser o l)
below-lesser n None l below here = here
below-lesser n (Some k) l below here = by_test (leb k.place l.place)
  where
    by_test : (b : Bool) → Below n (cond b (Some k) (Some l))
    by_test true = below
    by_test false = here

below-one_more : (domain due index : ℕ) (o : Option Least) (a : Arrival) → Below index o → Below (index + 1) (one_more domain due index o a)
below-one_more domain due index o a below = by_test (is_in domain a)
  where
    more : Below (index + 1) o
    more = below-more index (index + 1) o (omega arith) below

    by_test : (b : Bool) → Below (index + 1) (cond b (lesser o (found_at index due a)) o)
    by_test true = below-lesser (index + 1) o (found_at index due a) more (omega arith)
    by_test false = more

pub below-least : (domain due index : ℕ) (o : Option Least) (xs : List Arrival) → Below index o → Below (index + length xs) (least_from domain due index o xs)
below-least domain due index o [] below = below-more index (index + 0) o (omega arith) below
below-least domain due index o (a ∷ xs) below =
    below-more ((index + 1) + length xs) (index + suc (length xs)) (least_from domain due (index + 1) (one_more domain due index o a) xs) (omega arith)
    (below-least domain due (index + 1) (one_more domain due index o a) xs (below-one_more domain due index o a below))

-- one that was found stays found
abbrev Found : Option Least → Type 0
Found o = (l : Least) × (o ≡ Some l)

found-one_more : (domain due index : ℕ) (l : Least) (a : Arrival) → Found (one_more domain due index (Some l) a)
found-one_more domain due index l a = by_tests (is_in domain a) (leb l.place (found_at index due a).place)
  where
    by_tests : (b c : Bool) → Found (cond b (cond c (Some l) (Some (found_at index due a))) (Some l))
    by_tests true true = (l, refl)
    by_tests true false = (found_at index due a, refl)
    by_tests false c = (l, refl)

found-least : (domain due index : ℕ) (o : Option Least) (xs : List Arrival) → Found o → Found (least_from domain due index o xs)
found-least domain due index o [] found = found
found-least domain due index o (a ∷ xs) found =
    found-least domain due (index + 1) (one_more domain due index o a) xs
    (subst (λ (p : Option Least). Found (one_more domain due index p a)) (sym found.1) (found-one_more domain due index found.0 a))

found-first : (domain due : ℕ) (a : Arrival) (xs : List Arrival) → is_in domain a ≡ true → Found (least_of domain due (a ∷ xs))
found-first domain due a xs here =
    found-least domain due 1 (one_more domain due 0 None a) xs (found_at 0 due a, ap (λ (b : Bool). cond b (Some (found_at 0 due a)) None) here)

-- ---- so the last ones leave

-- one leaves, and the others wait
pub record Goes (w : WindowView) (o : Option (Arrival × WindowView)) : Type 0 where
  pub left : Arrival × WindowView
  pub is : o ≡ Some left
  pub fewer : length left.1.waiting + 1 ≡ length w.waiting

pub goes-least : (w : WindowView) (l : Least) (o : Option Least) → o ≡ Some l → l.index < length w.waiting → Goes w (leaving w o)
goes-least w l o is below =
    elim (slice_get_cases w.waiting l.index).1 [
      | inl found ↦
          let x : Arrival × WindowView = (found.0, without w l.index found.0) in
          let here : leaving w (Some l) ≡ Some x = ap (λ (p : Option Arrival). elim p [ None ↦ None | Some a ↦ Some (a, without w l.index a) ]) found.2 in
          let stays : length x.1.waiting ≡ length (remove w.waiting l.index) = ap length (passing-waiting (record w { waiting = remove w.waiting l.index }) found.0.header.domain (take l.index w.waiting)) in
          record { left = x; is = ap (leaving w) is ∙ here; fewer = omega (arith, stays, length-remove w.waiting l.index below) }
      | inr none ↦ absurd (omega (arith, none.0))
    ]

pub last_of-goes : (w : WindowView) (a : Arrival) (xs : List Arrival) → w.waiting ≡ a ∷ xs → Goes w (last_of w (a ∷ xs))
last_of-goes w a xs is =
    let d = a.header.domain in
    let due = due_number w d in
    let found : Found (least w d) = subst (λ (ys : List Arrival). Found (least_of d due ys)) (sym is) (found-first d due a xs (eq-eqb d d refl)) in
    let below : Below (length w.waiting) (least w d) = below-more (0 + length w.waiting) (length w.waiting) (least w d) (omega arith) (below-least d due 0 None w.waiting tt) in
    goes-least w found.0 (least w d) found.1 (subst (Below (length w.waiting)) found.1 below)

goes_on-none : (says : Says) (fuel : ℕ) (again : Run → Run) (r : Run) (xs : List Arrival) → r.window.waiting ≡ xs → length r.window.waiting ≤ suc fuel
    → ((s : Run) → length s.window.waiting ≤ fuel → (again s).window.waiting ≡ []) → (go_on again says r (last_of r.window xs)).window.waiting ≡ []
goes_on-none says fuel again r [] is few ends = is
goes_on-none says fuel again r (a ∷ xs) is few ends =
    let goes = last_of-goes r.window a xs is in
    let same : length (hand_on says goes.left.0 goes.left.1 r).window.waiting ≡ length goes.left.1.waiting = ap length (answered-waiting goes.left.1 goes.left.0 (says (length r.handed_on))) in
    rw goes.is (ends (hand_on says goes.left.0 goes.left.1 r) (omega (arith, same, goes.fewer)))

finish_with-none : (says : Says) (fuel : ℕ) (r : Run) → length r.window.waiting ≤ fuel → (finish_with says fuel r).window.waiting ≡ []
finish_with-none says zero r few = nil_from_length r.window.waiting (omega arith)
finish_with-none says (suc fuel) r few = goes_on-none says fuel (finish_with says fuel) r r.window.waiting refl few (finish_with-none says fuel)

pub finish-none : (says : Says) (r : Run) → (finish says r).window.waiting ≡ []
finish-none says r = finish_with-none says (length r.window.waiting) r (omega arith)

go_on-doubled : (says : Says) (again : Run → Run) (r : Run) (o : Option (Arrival × WindowView)) → ((s : Run) → (again s).doubled ≡ s.doubled) → (go_on again says r o).doubled ≡ r.doubled
go_on-doubled says again r None goes = refl
go_on-doubled says again r (Some x) goes = goes (hand_on says x.0 x.1 r)

finish_with-doubled : (says : Says) (fuel : ℕ) (r : Run) → (finish_with says fuel r).doubled ≡ r.doubled
finish_with-doubled says zero r = refl
finish_with-doubled says (suc fuel) r = go_on-doubled says (finish_with says fuel) r (last_of r.window r.window.waiting) (finish_with-doubled says fuel)

-- what was released and what was doubled is all that came
pub all_released : (weight : Arrival → ℕ) (says : Says) (seconds : ℕ) (es : List Event) → sum_by weight (released says seconds es) + sum_by weight (run says seconds es).doubled ≡ sum_by weight (came es)
all_released weight says seconds es =
    let r = run says seconds es in
    let whole = all_that_came weight says seconds es in
    let ended = finish-bag weight says r in
    let none = ap (sum_by weight) (finish-none says r) in
    let same = ap (sum_by weight) (finish_with-doubled says (length r.window.waiting) r) in
    omega (arith, whole, ended, none, same)
