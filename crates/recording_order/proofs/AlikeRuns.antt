-- Runs whose windows are the same but for their counts hand on the same.
use Rattle.std.proofs.Common.{◌≡◌, ℕ, zero, suc, Option, Some, None, [], ◌∷◌, ◌++◌, length, refl, ap, subst, ◌∙◌}
use Rattle.recording_order.specs.Arrivals.{Arrival}
use Rattle.recording_order.specs.Counts.{with_counts_begun}
use Rattle.recording_order.specs.Windows.{WindowView, Offered, offered, next_of, least_in, last_of, late_domain}
use Rattle.recording_order.specs.Releases.{Run, Says, Event, Came, Tick, hand_on, answered, go_on, empty_with, empty, begin_anew, take_offered, take_with, take_run, settle_with, settle, settle_late, tick_with, finish_with, finish, step}
use Rattle.recording_order.specs.declared.datagram_counts.DatagramCounts.{DatagramCounts}
use Rattle.recording_order.specs.declared.offer.Offer.{Offer}
use Rattle.recording_order.specs.declared.offer.Offer.TheVariants.{Write, Waits, Doubled, First, Anew}
use Rattle.recording_order.specs.Alike.{SameButCounts, RunsAlike, StayAlike}
use Rattle.recording_order.proofs.Alike.{begun_out, begun_offer, next-alike, least_in-alike, last-alike, late-alike, offered-alike, writing-alike}

many-alike : (w v : WindowView) → SameButCounts w v → length w.waiting ≡ length v.waiting
many-alike w v alike = ap (λ (u : WindowView). length u.waiting) alike

answered-alike : (w v : WindowView) (a : Arrival) (o : Option DatagramCounts) → SameButCounts w v → SameButCounts (answered w a o) (answered v a o)
answered-alike w v a None alike = alike
answered-alike w v a (Some c) alike = writing-alike w v a c alike

module _ (says : Says) where
  hand-alike : (a b : Arrival) (w v : WindowView) (r s : Run) → a ≡ b → SameButCounts w v → r.handed_on ≡ s.handed_on → RunsAlike (hand_on says a w r) (hand_on says b v s)
  hand-alike a b w v r s same alike handed = subst (λ c. RunsAlike (hand_on says a w r) (hand_on says c v s)) same (record {
    handed_on = ap (λ xs. xs ++ a ∷ []) handed;
    window = answered-alike w v a (says (length r.handed_on)) alike ∙ ap (λ xs. with_counts_begun (answered v a (says (length xs)))) handed;
  })

  go_on-alike : (again : Run → Run) (r s : Run) (o q : Option (Arrival × WindowView)) → StayAlike again → RunsAlike r s → begun_out o ≡ begun_out q → RunsAlike (go_on again says r o) (go_on again says s q)
  go_on-alike again r s None None keeps alike out = alike
  go_on-alike again r s None (Some y) keeps alike out = absurd cc
  go_on-alike again r s (Some x) None keeps alike out = absurd cc
  go_on-alike again r s (Some x) (Some y) keeps alike out =
      let both : (x.0, with_counts_begun x.1) ≡ (y.0, with_counts_begun y.1) = cc in
      keeps (hand_on says x.0 x.1 r) (hand_on says y.0 y.1 s) (hand-alike x.0 y.0 x.1 y.1 r s (ap (λ (z : Arrival × WindowView). z.0) both) (ap (λ (z : Arrival × WindowView). z.1) both) alike.handed_on)

  empty_with-alike : (d fuel : ℕ) → StayAlike (empty_with says d fuel)
  empty_with-alike d zero r s alike = alike
  empty_with-alike d (suc fuel) r s alike = go_on-alike (empty_with says d fuel) r s (least_in r.window d) (least_in s.window d) (empty_with-alike d fuel) alike (least_in-alike r.window s.window d alike.window)

  empty-alike : (d : ℕ) → StayAlike (empty says d)
  empty-alike d r s alike = subst (λ n. RunsAlike (empty_with says d (length r.window.waiting) r) (empty_with says d n s)) (many-alike r.window s.window alike.window) (empty_with-alike d (length r.window.waiting) r s alike)

  settle_with-alike : (d second fuel : ℕ) → StayAlike (settle_with says d second fuel)
  settle_with-alike d second zero r s alike = alike
  settle_with-alike d second (suc fuel) r s alike =
      go_on-alike (settle_with says d second fuel) r s (next_of r.window d second) (next_of s.window d second) (settle_with-alike d second fuel) alike (next-alike r.window s.window d second alike.window)

  settle-alike : (d second : ℕ) → StayAlike (settle says d second)
  settle-alike d second r s alike =
      subst (λ n. RunsAlike (settle_with says d second (length r.window.waiting) r) (settle_with says d second n s)) (many-alike r.window s.window alike.window) (settle_with-alike d second (length r.window.waiting) r s alike)

  finish_with-alike : (fuel : ℕ) → StayAlike (finish_with says fuel)
  finish_with-alike zero r s alike = alike
  finish_with-alike (suc fuel) r s alike =
      go_on-alike (finish_with says fuel) r s (last_of r.window r.window.waiting) (last_of s.window s.window.waiting) (finish_with-alike fuel) alike (last-alike r.window s.window alike.window)

  pub finish-alike : StayAlike (finish says)
  finish-alike r s alike = subst (λ n. RunsAlike (finish_with says (length r.window.waiting) r) (finish_with says n s)) (many-alike r.window s.window alike.window) (finish_with-alike (length r.window.waiting) r s alike)

  -- ---- one that comes

  anew-alike : (a : Arrival) → StayAlike (begin_anew says a)
  anew-alike a r s alike =
      let x = empty says a.header.domain r in
      let y = empty says a.header.domain s in
      let emptied = empty-alike a.header.domain r s alike in
      hand-alike a a x.window y.window x y refl emptied.window emptied.handed_on

  by_offer : (a : Arrival) (again : Run → Run) (r s : Run) (o : Offer) (w v : WindowView) → StayAlike again → SameButCounts w v → RunsAlike r s → RunsAlike (take_offered says a again r (o, w)) (take_offered says a again s (o, v))
  by_offer a again r s Write w v keeps windows alike = hand-alike a a w v r s refl windows alike.handed_on
  by_offer a again r s Waits w v keeps windows alike = record { handed_on = alike.handed_on; window = windows }
  by_offer a again r s Doubled w v keeps windows alike = record { handed_on = alike.handed_on; window = windows }
  by_offer a again r s (First b) w v keeps windows alike = keeps (hand_on says b w r) (hand_on says b v s) (hand-alike b b w v r s refl windows alike.handed_on)
  by_offer a again r s Anew w v keeps windows alike = anew-alike a (record r { window = w }) (record s { window = v }) (record { handed_on = alike.handed_on; window = windows })

  offered-by : (a : Arrival) (again : Run → Run) (r s : Run) (o q : Offered) → StayAlike again → begun_offer o ≡ begun_offer q → RunsAlike r s → RunsAlike (take_offered says a again r o) (take_offered says a again s q)
  offered-by a again r s o q keeps same alike =
      subst (λ (p : Offer). RunsAlike (take_offered says a again r o) (take_offered says a again s (p, q.1))) (ap (λ (x : Offered). x.0) same) (by_offer a again r s o.0 o.1 q.1 keeps (ap (λ (x : Offered). x.1) same) alike)

  take_with-alike : (a : Arrival) (fuel : ℕ) → StayAlike (take_with says a fuel)
  take_with-alike a zero r s alike = hand-alike a a r.window s.window r s refl alike.window alike.handed_on
  take_with-alike a (suc fuel) r s alike =
      offered-by a (take_with says a fuel) r s (offered r.window a) (offered s.window a) (take_with-alike a fuel) (offered-alike r.window s.window a alike.window) alike

  take_run-alike : (a : Arrival) → StayAlike (take_run says a)
  take_run-alike a r s alike =
      subst (λ n. RunsAlike (take_with says a (suc (length r.window.waiting)) r) (take_with says a (suc n) s)) (many-alike r.window s.window alike.window) (take_with-alike a (suc (length r.window.waiting)) r s alike)

  -- ---- a tick

  by_late : (second : ℕ) (again : Run → Run) (r s : Run) (o : Option ℕ) → StayAlike again → RunsAlike r s → RunsAlike (settle_late again says second r o) (settle_late again says second s o)
  by_late second again r s None keeps alike = alike
  by_late second again r s (Some d) keeps alike = keeps (settle says d second r) (settle says d second s) (settle-alike d second r s alike)

  tick_with-alike : (second fuel : ℕ) → StayAlike (tick_with says second fuel)
  tick_with-alike second zero r s alike = alike
  tick_with-alike second (suc fuel) r s alike =
      subst (λ o. RunsAlike (tick_with says second (suc fuel) r) (settle_late (tick_with says second fuel) says second s o)) (late-alike r.window s.window second alike.window)
      (by_late second (tick_with says second fuel) r s (late_domain r.window second) (tick_with-alike second fuel) alike)

  pub step-alike : (e : Event) (r s : Run) → RunsAlike r s → RunsAlike (step says r e) (step says s e)
  step-alike (Came a) r s alike = settle-alike a.header.domain a.second (take_run says a r) (take_run says a s) (take_run-alike a r s alike)
  step-alike (Tick second) r s alike =
      subst (λ n. RunsAlike (tick_with says second (length r.window.waiting) r) (tick_with says second n s)) (many-alike r.window s.window alike.window) (tick_with-alike second (length r.window.waiting) r s alike)
