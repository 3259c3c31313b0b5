use Rattle.std.proofs.Common.{◌<◌, ◌≤◌, ℕ, List, [], ◌∷◌, ◌++◌, length-append, map, take, ap, refl, sym, subst, ◌∙◌, arith}
use Rattle.std.specs.Borrow.{Bor}
use Rattle.std.proofs.lemmas.List.{map-append, take_more}
use Rattle.period_collect.specs.ManyRows.{AreLarge, HasRows}
use Rattle.period_collect.specs.Parting.{AreAlone}
use Rattle.period_collect.proofs.OwnTablesKept.{alone_more}
use Rattle.period_collect.proofs.RowsCounted.{large_on, none_large, small_on}
use Rattle.period_collect.proofs.large_files.large_files.Goals as goal
use Rattle.period_collect.proofs.large_files.large_files.Goals.{then-rows-maker+in-Ok, else-rows-maker}

pub loop-place-init : goal.loop-place-init
loop-place-init g c = ([], refl, refl, none_large c.args.maker.now.job.collect.plan.now c.args.maker.now.job.rows_of_a_session _ c.new-large.ensures.items, refl)

pub loop-place-preserved : goal.loop-place-preserved
loop-place-preserved g c =
    let inv = c.loop-place.invariant in
    let has = c.in_ok-rows.ensures.rows in
    let at = c.loop-place.place in
    let rows = c.in_ok-rows.rows in
    let texts = map (λ (w : Bor (List ℕ)). w.now) in
    let plan = c.args.maker.now.job.collect.plan.now in
    let limit = c.args.maker.now.job.rows_of_a_session in
    let more = sym (ap texts (take_more c.args.paths.now at _ c.loop-place-test.true) ∙ map-append (λ (w : Bor (List ℕ)). w.now) (take at c.args.paths.now) _) in
    let same = c.in_ok-rows.ensures.job ∙ inv.4 in
    let has_rows = subst (λ j. HasRows j.collect.plan.now has.alone rows) inv.4 has.has in (
      inv.0 ++ has.alone ∷ [],
      subst (λ (ps : List (List ℕ)). AreAlone c.args.maker.now c.own_rows.new.maker ps (inv.0 ++ has.alone ∷ [])) more
          (alone_more c.args.maker.now c.loop-place.maker c.own_rows.new.maker _ inv.0 _ has.alone inv.1 has.is_alone),
      omega (arith, inv.2, length-append inv.0 (has.alone ∷ [])),
      elim c.if-rows-maker.branch [
        | then-rows-maker+in-Ok w ↦ subst (λ v. AreLarge plan limit (inv.0 ++ has.alone ∷ []) v.items) (sym w.large-is)
            (large_on plan limit inv.0 has.alone c.loop-place.large.items _ rows at inv.2 inv.3 has_rows (subst (λ j. j.rows_of_a_session < rows) same w.if-rows-maker.true) w.in-Ok.ensures.items)
        | else-rows-maker w ↦ subst (λ v. AreLarge plan limit (inv.0 ++ has.alone ∷ []) v.items) (sym w.large-is)
            (small_on plan limit inv.0 has.alone c.loop-place.large.items rows at inv.2 inv.3 has_rows (subst (λ j. rows ≤ j.rows_of_a_session) same w.if-rows-maker.false))
      ],
      same,
    )
