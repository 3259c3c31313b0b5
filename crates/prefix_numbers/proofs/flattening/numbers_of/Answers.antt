use Rattle.std.proofs.Common.{◌+◌, ◌∙◌, ℕ, List, Vec, Global, take, ap, subst, sym}
use Rattle.std.proofs.lemmas.List.{with_items_is}
use Rattle.prefix_numbers.specs.Flat.{AreNumbers}
use Rattle.prefix_numbers.proofs.StepsOf.{numbers_skip, numbers_take}
use Rattle.prefix_numbers.proofs.flattening.numbers_of.Goals as goal
use Rattle.prefix_numbers.proofs.flattening.numbers_of.Goals.{then-row-width, else-row-width}

pub loop-row-preserved : goal.loop-row-preserved
loop-row-preserved c =
    let i = c.loop-row.row-index in
    let rows = c.args.rows.now in
    let starts = c.args.starts.now in
    let old = c.loop-row.numbers in
    elim c.if-row-width.branch as (λ _. AreNumbers (take (i + 1) rows) c.args.width starts c.if-row-width.numbers.items) [
      | then-row-width w ↦
          let new = w.paint.new.numbers in
          let items = ap (λ (v : Vec ℕ Global). v.items) w.numbers-is ∙ with_items_is old new (w.paint.auto.numbers ∙ w.deref_mut.ensures.len) in
          subst (λ (l : List ℕ). AreNumbers (take (i + 1) rows) c.args.width starts l) (sym items)
          (numbers_take rows i c.args.width _ starts old.items _ new c.loop-row-test.true w.if-row-width.true w.deref_mut.ensures.value c.requires.ascending c.requires.zeros w.paint.auto.numbers w.paint.ensures c.loop-row.invariant)
      | else-row-width w ↦
          subst (λ (v : Vec ℕ Global). AreNumbers (take (i + 1) rows) c.args.width starts v.items) (sym w.numbers-is)
          (numbers_skip rows i c.args.width _ starts old.items c.loop-row-test.true w.if-row-width.false c.loop-row.invariant)
    ]
