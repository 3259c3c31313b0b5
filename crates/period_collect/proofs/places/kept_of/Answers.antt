use Rattle.std.proofs.Common.{ℕ, List, map, ap, sym, ◌∙◌}
use Rattle.std.specs.Borrow.{Bor}
use Rattle.period_collect.proofs.PathsKept.{kept_on, left_on}
use Rattle.period_collect.proofs.places.kept_of.Goals as goal
use Rattle.period_collect.proofs.places.kept_of.Goals.{then-not-is_out+in_ok-push, else-not-is_out}

pub loop-place-preserved : goal.loop-place-preserved
loop-place-preserved c =
    elim c.if-not-is_out.branch [
      | then-not-is_out+in_ok-push w ↦ ap (λ v. map (λ (b : Bor (List ℕ)). b.now) v.items) w.kept-is ∙ kept_on c.args.out.now c.args.paths.now c.loop-place.place _ _ _ c.loop-place-test.true (sym c.is_out.ensures ∙ w.if-not-is_out.true) c.loop-place.invariant w.in_ok-push.ensures.items
      | else-not-is_out w ↦ ap (λ v. map (λ (b : Bor (List ℕ)). b.now) v.items) w.kept-is ∙ left_on c.args.out.now c.args.paths.now c.loop-place.place _ c.loop-place-test.true (sym c.is_out.ensures ∙ w.if-not-is_out.false) c.loop-place.invariant
    ]
