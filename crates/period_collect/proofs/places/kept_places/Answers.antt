use Rattle.std.proofs.Common.{ap, sym, ◌∙◌}
use Rattle.period_collect.proofs.PathsKept.{place_left, place_on}
use Rattle.period_collect.proofs.places.kept_places.Goals as goal
use Rattle.period_collect.proofs.places.kept_places.Goals.{then-not-is_out+in_ok-push, else-not-is_out}

pub loop-place-preserved : goal.loop-place-preserved
loop-place-preserved c =
    elim c.if-not-is_out.branch [
      | then-not-is_out+in_ok-push w ↦ ap (λ v. v.items) w.kept-is ∙ place_on c.args.out.now c.loop-place.place _ _ (sym c.is_out.ensures ∙ w.if-not-is_out.true) c.loop-place.invariant w.in_ok-push.ensures.items
      | else-not-is_out w ↦ ap (λ v. v.items) w.kept-is ∙ place_left c.args.out.now c.loop-place.place _ (sym c.is_out.ensures ∙ w.if-not-is_out.false) c.loop-place.invariant
    ]
