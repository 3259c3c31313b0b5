-- A run depends only on what is said of the datagrams that were handed on in it.
use Rattle.std.proofs.Common.{◌≡◌, ℕ, zero, suc, ◌≤◌, Option, Some, None, List, [], ◌∷◌, ◌++◌, length, refl, sym, ap, ◌∙◌, append_assoc, arith, length-append}
use Rattle.std.proofs.lemmas.List.{append-nil}
use Rattle.recording_order.specs.Arrivals.{Arrival}
use Rattle.recording_order.specs.declared.offer.Offer.{Offer}
use Rattle.recording_order.specs.declared.offer.Offer.TheVariants.{Write, Waits, Doubled, First, Anew}
use Rattle.recording_order.specs.Windows.{WindowView, offered, next_of, late_domain, least_in, last_of}
use Rattle.recording_order.specs.Releases.{Event, Came, Tick, Run, Says, StaysHandedOn, Agree, hand_on, answered, go_on, empty_with, empty, begin_anew, take_offered, take_with, take_run, settle_with, settle, settle_late, tick_with, finish_with, finish, step, run_from, start, run}
use Rattle.recording_order.specs.declared.datagram_counts.DatagramCounts.{DatagramCounts}

-- what a part of a run does: it only hands on, and asks only of those
abbrev pub Part : Type 0
Part = Says → Run → Run

pub record AsksOf (f : Part) : Type 0 where
  pub goes_on : (says : Says) (r : Run) → StaysHandedOn r (f says r)
  pub same : (says tells : Says) (r : Run) → Agree says tells (length r.handed_on) (length (f says r).handed_on) → f says r ≡ f tells r

longer : (r s : Run) → StaysHandedOn r s → length r.handed_on ≤ length s.handed_on
longer r s goes = omega (arith, ap length goes.1, length-append r.handed_on goes.0)

goes-both : (r s t : Run) → StaysHandedOn r s → StaysHandedOn s t → StaysHandedOn r t
goes-both r s t p q = (p.0 ++ q.0, q.1 ∙ ap (λ (xs : List Arrival). xs ++ q.0) p.1 ∙ append_assoc r.handed_on p.0 q.0)

goes-none : (r : Run) → StaysHandedOn r r
goes-none r = ([], sym (append-nil r.handed_on))

asks-none : AsksOf (λ says r. r)
asks-none = record { goes_on = λ says r. goes-none r; same = λ says tells r agree. refl }

agree-within : (says tells : Says) (low middle high top : ℕ) → low ≤ middle → high ≤ top → Agree says tells low top → Agree says tells middle high
agree-within says tells low middle high top from to agree = λ n above below. agree n (omega (arith, from, above)) (omega (arith, to, below))

-- one part after another
asks-both : (f g : Part) → AsksOf f → AsksOf g → AsksOf (λ says r. g says (f says r))
asks-both f g p q =
    record {
      goes_on = λ says r. goes-both r (f says r) (g says (f says r)) (p.goes_on says r) (q.goes_on says (f says r));
      same = λ says tells r agree.
          let s = f says r in
          let t = g says s in
          let first : f says r ≡ f tells r = p.same says tells r (agree-within says tells (length r.handed_on) (length r.handed_on) (length s.handed_on) (length t.handed_on) (omega arith) (longer s t (q.goes_on says s)) agree) in
          let second : g says s ≡ g tells s = q.same says tells s (agree-within says tells (length r.handed_on) (length s.handed_on) (length t.handed_on) (length t.handed_on) (longer r s (p.goes_on says r)) (omega arith) agree) in
          second ∙ ap (g tells) first;
    }

asks-hand_on : (a : Arrival) (w : Run → WindowView) → AsksOf (λ says r. hand_on says a (w r) r)
asks-hand_on a w =
    record {
      goes_on = λ says r. (a ∷ [], refl);
      same = λ says tells r agree.
          let own : says (length r.handed_on) ≡ tells (length r.handed_on) = agree (length r.handed_on) (omega arith) (omega (arith, length-append r.handed_on (a ∷ []))) in
          ap (λ (o : Option DatagramCounts). record { window = answered (w r) a o; handed_on = r.handed_on ++ a ∷ []; doubled = r.doubled }) own;
    }

-- what a part does with one run
pub record AsksAt (f : Says → Run) (r : Run) : Type 0 where
  pub goes_on : (says : Says) → StaysHandedOn r (f says)
  pub same : (says tells : Says) → Agree says tells (length r.handed_on) (length (f says).handed_on) → f says ≡ f tells

at-run : (f : Part) (r : Run) → AsksOf f → AsksAt (λ says. f says r) r
at-run f r p = record { goes_on = λ says. p.goes_on says r; same = λ says tells. p.same says tells r }

at-runs : (f : Part) → ((r : Run) → AsksAt (λ says. f says r) r) → AsksOf f
at-runs f p = record { goes_on = λ says r. (p r).goes_on says; same = λ says tells r. (p r).same says tells }

at-go_on : (again : Part) (r : Run) (o : Option (Arrival × WindowView)) → AsksOf again → AsksAt (λ says. go_on (again says) says r o) r
at-go_on again r None p = at-run (λ says s. s) r asks-none
at-go_on again r (Some x) p = at-run (λ says s. again says (hand_on says x.0 x.1 s)) r (asks-both (λ says s. hand_on says x.0 x.1 s) again (asks-hand_on x.0 (λ s. x.1)) p)

empty_with-asks : (domain fuel : ℕ) → AsksOf (λ says. empty_with says domain fuel)
empty_with-asks domain zero = asks-none
empty_with-asks domain (suc fuel) =
    at-runs (λ says. empty_with says domain (suc fuel)) (λ r. at-go_on (λ says. empty_with says domain fuel) r (least_in r.window domain) (empty_with-asks domain fuel))

empty-asks : (domain : ℕ) → AsksOf (λ says. empty says domain)
empty-asks domain = at-runs (λ says. empty says domain) (λ r. at-run (λ says. empty_with says domain (length r.window.waiting)) r (empty_with-asks domain (length r.window.waiting)))

begin_anew-asks : (a : Arrival) → AsksOf (λ says. begin_anew says a)
begin_anew-asks a =
    asks-both (λ says. empty says a.header.domain) (λ says s. hand_on says a s.window s) (empty-asks a.header.domain) (asks-hand_on a (λ s. s.window))

-- the window may be another one before that
at-window : (f : Part) (r : Run) (w : WindowView) → AsksOf f → AsksAt (λ says. f says (record r { window = w })) r
at-window f r w p =
    let s : Run = record r { window = w } in
    record { goes_on = λ says. p.goes_on says s; same = λ says tells. p.same says tells s }

at-take_offered : (a : Arrival) (again : Part) (r : Run) (o : Offer) (w : WindowView) → AsksOf again → AsksAt (λ says. take_offered says a (again says) r (o, w)) r
at-take_offered a again r Write w p = at-run (λ says s. hand_on says a w s) r (asks-hand_on a (λ s. w))
at-take_offered a again r Waits w p = record { goes_on = λ says. goes-none r; same = λ says tells agree. refl }
at-take_offered a again r Doubled w p = record { goes_on = λ says. goes-none r; same = λ says tells agree. refl }
at-take_offered a again r (First b) w p =
    at-run (λ says s. again says (hand_on says b w s)) r (asks-both (λ says s. hand_on says b w s) again (asks-hand_on b (λ s. w)) p)
at-take_offered a again r Anew w p = at-window (λ says. begin_anew says a) r w (begin_anew-asks a)

take_with-asks : (a : Arrival) (fuel : ℕ) → AsksOf (λ says. take_with says a fuel)
take_with-asks a zero = asks-hand_on a (λ r. r.window)
take_with-asks a (suc fuel) =
    at-runs (λ says. take_with says a (suc fuel)) (λ r.
    let o = offered r.window a in
    at-take_offered a (λ says. take_with says a fuel) r o.0 o.1 (take_with-asks a fuel))

take_run-asks : (a : Arrival) → AsksOf (λ says. take_run says a)
take_run-asks a = at-runs (λ says. take_run says a) (λ r. at-run (λ says. take_with says a (suc (length r.window.waiting))) r (take_with-asks a (suc (length r.window.waiting))))

settle_with-asks : (domain second fuel : ℕ) → AsksOf (λ says. settle_with says domain second fuel)
settle_with-asks domain second zero = asks-none
settle_with-asks domain second (suc fuel) =
    at-runs (λ says. settle_with says domain second (suc fuel)) (λ r. at-go_on (λ says. settle_with says domain second fuel) r (next_of r.window domain second) (settle_with-asks domain second fuel))

settle-asks : (domain second : ℕ) → AsksOf (λ says. settle says domain second)
settle-asks domain second =
    at-runs (λ says. settle says domain second) (λ r. at-run (λ says. settle_with says domain second (length r.window.waiting)) r (settle_with-asks domain second (length r.window.waiting)))

at-settle_late : (second : ℕ) (again : Part) (r : Run) (o : Option ℕ) → AsksOf again → AsksAt (λ says. settle_late (again says) says second r o) r
at-settle_late second again r None p = at-run (λ says s. s) r asks-none
at-settle_late second again r (Some domain) p =
    at-run (λ says s. again says (settle says domain second s)) r (asks-both (λ says. settle says domain second) again (settle-asks domain second) p)

tick_with-asks : (second fuel : ℕ) → AsksOf (λ says. tick_with says second fuel)
tick_with-asks second zero = asks-none
tick_with-asks second (suc fuel) =
    at-runs (λ says. tick_with says second (suc fuel)) (λ r. at-settle_late second (λ says. tick_with says second fuel) r (late_domain r.window second) (tick_with-asks second fuel))

finish_with-asks : (fuel : ℕ) → AsksOf (λ says. finish_with says fuel)
finish_with-asks zero = asks-none
finish_with-asks (suc fuel) =
    at-runs (λ says. finish_with says (suc fuel)) (λ r. at-go_on (λ says. finish_with says fuel) r (last_of r.window r.window.waiting) (finish_with-asks fuel))

pub finish-asks : AsksOf finish
finish-asks = at-runs finish (λ r. at-run (λ says. finish_with says (length r.window.waiting)) r (finish_with-asks (length r.window.waiting)))

pub step-asks : (e : Event) → AsksOf (λ says r. step says r e)
step-asks (Came a) = asks-both (λ says. take_run says a) (λ says. settle says a.header.domain a.second) (take_run-asks a) (settle-asks a.header.domain a.second)
step-asks (Tick second) = at-runs (λ says r. step says r (Tick second)) (λ r. at-run (λ says. tick_with says second (length r.window.waiting)) r (tick_with-asks second (length r.window.waiting)))

run_from-asks : (es : List Event) → AsksOf (λ says r. run_from says r es)
run_from-asks [] = asks-none
run_from-asks (e ∷ es) = asks-both (λ says r. step says r e) (λ says r. run_from says r es) (step-asks e) (run_from-asks es)

pub run-asks : (says tells : Says) (seconds : ℕ) (es : List Event) → Agree says tells 0 (length (run says seconds es).handed_on) → run says seconds es ≡ run tells seconds es
run-asks says tells seconds es = (run_from-asks es).same says tells (start seconds)
