-- What was handed on in a run stays.
use Rattle.std.proofs.Common.{ℕ, zero, suc, Option, Some, None, List, [], ◌∷◌, ◌++◌, length, refl, sym, ap, ◌∙◌, append_assoc}
use Rattle.std.proofs.lemmas.List.{append-nil}
use Rattle.ipfix_session.specs.Given.{IsPrefix}
use Rattle.recording_order.specs.Arrivals.{Arrival}
use Rattle.recording_order.specs.Windows.{WindowView, next_of, least_in, last_of, late_domain, offered}
use Rattle.recording_order.specs.Releases.{Run, Says, hand_on, go_on, empty_with, empty, begin_anew, take_offered, take_with, settle_with, settle, settle_late, tick_with, finish_with}
use Rattle.recording_order.specs.declared.offer.Offer.{Offer}
use Rattle.recording_order.specs.declared.offer.Offer.TheVariants.{Write, Waits, Doubled, First, Anew}

pub prefix-same : {X : Type 0} (xs : List X) → IsPrefix xs xs
prefix-same xs = ([], sym (append-nil xs))

pub prefix-both : {X : Type 0} (xs ys zs : List X) → IsPrefix xs ys → IsPrefix ys zs → IsPrefix xs zs
prefix-both xs ys zs p q = (p.0 ++ q.0, q.1 ∙ ap (λ l. l ++ q.0) p.1 ∙ append_assoc xs p.0 q.0)

-- one run has what another handed on, and maybe more
abbrev pub IsLonger : Run → Run → Type 0
IsLonger r s = IsPrefix r.handed_on s.handed_on

abbrev pub Grows : (Run → Run) → Type 0
Grows f = (r : Run) → IsLonger r (f r)

longer-both : (r s t : Run) → IsLonger r s → IsLonger s t → IsLonger r t
longer-both r s t p q = prefix-both r.handed_on s.handed_on t.handed_on p q

pub grows-none : Grows (λ r. r)
grows-none r = prefix-same r.handed_on

pub grows-both : (f g : Run → Run) → Grows f → Grows g → Grows (λ r. g (f r))
grows-both f g p q r = longer-both r (f r) (g (f r)) (p r) (q (f r))

longer-hand : (says : Says) (a : Arrival) (w : WindowView) (r : Run) → IsLonger r (hand_on says a w r)
longer-hand says a w r = (a ∷ [], refl)

longer-go_on : (says : Says) (again : Run → Run) (r : Run) (o : Option (Arrival × WindowView)) → Grows again → IsLonger r (go_on again says r o)
longer-go_on says again r None grows = grows-none r
longer-go_on says again r (Some x) grows = let s = hand_on says x.0 x.1 r in longer-both r s (again s) (longer-hand says x.0 x.1 r) (grows s)

module _ (says : Says) where
  pub grows-settle_with : (domain second fuel : ℕ) → Grows (settle_with says domain second fuel)
  grows-settle_with domain second zero r = grows-none r
  grows-settle_with domain second (suc fuel) r =
      longer-go_on says (settle_with says domain second fuel) r (next_of r.window domain second) (grows-settle_with domain second fuel)

  pub grows-settle : (domain second : ℕ) → Grows (settle says domain second)
  grows-settle domain second r = grows-settle_with domain second (length r.window.waiting) r

  pub grows-empty_with : (domain fuel : ℕ) → Grows (empty_with says domain fuel)
  grows-empty_with domain zero r = grows-none r
  grows-empty_with domain (suc fuel) r = longer-go_on says (empty_with says domain fuel) r (least_in r.window domain) (grows-empty_with domain fuel)

  pub grows-finish_with : (fuel : ℕ) → Grows (finish_with says fuel)
  grows-finish_with zero r = grows-none r
  grows-finish_with (suc fuel) r = longer-go_on says (finish_with says fuel) r (last_of r.window r.window.waiting) (grows-finish_with fuel)

  pub grows-handed_on : (a : Arrival) → Grows (λ r. hand_on says a r.window r)
  grows-handed_on a r = longer-hand says a r.window r

  longer-anew : (a : Arrival) (w : WindowView) (r : Run) → IsLonger r (begin_anew says a (record r { window = w }))
  longer-anew a w r =
      let begun : Run = record r { window = w } in
      let s = empty says a.header.domain begun in
      longer-both r s (hand_on says a s.window s) (grows-empty_with a.header.domain (length w.waiting) begun) (longer-hand says a s.window s)

  longer-offered : (a : Arrival) (again : Run → Run) (r : Run) (o : Offer) (w : WindowView) → Grows again → IsLonger r (take_offered says a again r (o, w))
  longer-offered a again r Write w grows = longer-hand says a w r
  longer-offered a again r Waits w grows = grows-none r
  longer-offered a again r Doubled w grows = grows-none r
  longer-offered a again r (First b) w grows = let s = hand_on says b w r in longer-both r s (again s) (longer-hand says b w r) (grows s)
  longer-offered a again r Anew w grows = longer-anew a w r

  pub grows-take_with : (a : Arrival) (fuel : ℕ) → Grows (take_with says a fuel)
  grows-take_with a zero r = longer-hand says a r.window r
  grows-take_with a (suc fuel) r =
      let o = offered r.window a in
      longer-offered a (take_with says a fuel) r o.0 o.1 (grows-take_with a fuel)

  longer-late : (second : ℕ) (again : Run → Run) (r : Run) (o : Option ℕ) → Grows again → IsLonger r (settle_late again says second r o)
  longer-late second again r None grows = grows-none r
  longer-late second again r (Some domain) grows =
      let s = settle says domain second r in
      longer-both r s (again s) (grows-settle domain second r) (grows s)

  pub grows-tick_with : (second fuel : ℕ) → Grows (tick_with says second fuel)
  grows-tick_with second zero r = grows-none r
  grows-tick_with second (suc fuel) r = longer-late second (tick_with says second fuel) r (late_domain r.window second) (grows-tick_with second fuel)
