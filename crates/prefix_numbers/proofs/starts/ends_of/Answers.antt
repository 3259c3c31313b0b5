use Rattle.std.proofs.Common.{◌+◌, ℕ, Vec, Global, take, subst, sym}
use Rattle.std.specs.Prelude.{All}
use Rattle.prefix_numbers.specs.Spans.{HasEndsOf}
use Rattle.prefix_numbers.proofs.SpansOf.{ends_all, ends_more, ends_skip}
use Rattle.prefix_numbers.proofs.starts.ends_of.Goals as goal
use Rattle.prefix_numbers.proofs.starts.ends_of.Goals.{then-row-width+in_ok-push_ends, else-row-width}

pub loop-row-preserved : goal.loop-row-preserved
loop-row-preserved c =
    let i = c.loop-row.row-index in
    let rows = c.args.rows.now in
    elim c.if-row-width.branch as (λ _. All (HasEndsOf c.args.width c.if-row-width.ends.items) (take (i + 1) rows)) [
      | then-row-width+in_ok-push_ends w ↦
          subst (λ (v : Vec ℕ Global). All (HasEndsOf c.args.width v.items) (take (i + 1) rows)) (sym w.ends-is)
          (ends_more rows i c.args.width _ c.loop-row.ends.items w.push_ends.new.ends.items c.loop-row-test.true c.loop-row.invariant w.in_ok-push_ends.ensures)
      | else-row-width w ↦
          subst (λ (v : Vec ℕ Global). All (HasEndsOf c.args.width v.items) (take (i + 1) rows)) (sym w.ends-is)
          (ends_skip rows i c.args.width _ c.loop-row.ends.items c.loop-row-test.true c.loop-row.invariant w.if-row-width.false)
    ]

pub returns : goal.returns
returns c = ends_all c.args.rows.now c.loop-row.row-index c.args.width c.loop-row.ends.items c.loop-row-test.false c.loop-row.invariant
