use Rattle.std.proofs.Common.{ℕ, List, [], ◌∷◌, ◌++◌, length-append, map, take, ap, refl, sym, subst, ◌∙◌, arith}
use Rattle.std.specs.Borrow.{Bor}
use Rattle.std.proofs.lemmas.List.{map-append, take_more}
use Rattle.period_collect.specs.Parting.{AreAlone, IsOwnTable}
use Rattle.period_collect.proofs.OwnTablesKept.{alone_more, own_more, own_none}
use Rattle.period_collect.proofs.parting.own_tables.Goals as goal

pub loop-place-init : goal.loop-place-init
loop-place-init g c = ([], refl, refl, own_none c.args.maker.now.job.collect.plan.now _ c.new.ensures.items c.new-2.ensures.items c.new-3.ensures.items, refl)

pub loop-place-preserved : goal.loop-place-preserved
loop-place-preserved g c =
    let inv = c.loop-place.invariant in
    let has = c.in_ok-table.ensures.own in
    let at = c.loop-place.place in
    let texts = map (λ (w : Bor (List ℕ)). w.now) in
    let plan = c.args.maker.now.job.collect.plan.now in
    let more = sym (ap texts (take_more c.args.paths.now at _ c.loop-place-test.true) ∙ map-append (λ (w : Bor (List ℕ)). w.now) (take at c.args.paths.now) _) in
    let is_table = subst (λ j. IsOwnTable j.collect.plan.now has.alone c.in_ok-table.table) inv.4 has.is_table in (
      inv.0 ++ has.alone ∷ [],
      subst (λ (ps : List (List ℕ)). AreAlone c.args.maker.now c.own_table.new.maker ps (inv.0 ++ has.alone ∷ [])) more
          (alone_more c.args.maker.now c.loop-place.maker c.own_table.new.maker _ inv.0 _ has.alone inv.1 has.is_alone),
      omega (arith, inv.2, length-append inv.0 (has.alone ∷ [])),
      own_more plan inv.0 has.alone c.in_ok-table.table at c.loop-place.own c.keep.new.own inv.2 inv.3 is_table c.in-Ok.ensures,
      c.in_ok-table.ensures.job ∙ inv.4,
    )
