use Rattle.std.proofs.Common.{arith, rules}
use Rattle.flow_rows.proofs.Totals.{popped_front, popped_last, popped_total}
use Rattle.flow_rows.proofs.merging.merge_onto.Goals as goal

pub merge_two-requires : goal.merge_two-requires
merge_two-requires g c =
    let old = c.loop-top.runs.items in
    let new = c.pop.new.self.items in
    let e = c.in-Some.ensures.items in (
      search rules,
      (
        λ q i. omega (arith, popped_total old new c.in-Some.top q i e, c.loop-top.invariant.totals q i, c.requires.small q i),
        (popped_last old new c.in-Some.top e c.loop-top.invariant.ordered, c.loop-top.invariant.order),
      ),
    )

pub loop-top-preserved : goal.loop-top-preserved
loop-top-preserved g c =
    let old = c.loop-top.runs.items in
    let new = c.pop.new.self.items in
    let e = c.in-Some.ensures.items in
    record {
      totals = λ q i. omega (arith, popped_total old new c.in-Some.top q i e, c.loop-top.invariant.totals q i, c.in_ok-run.ensures.total q i);
      ordered = popped_front old new c.in-Some.top e c.loop-top.invariant.ordered;
      order = c.in_ok-run.ensures.run;
    }
