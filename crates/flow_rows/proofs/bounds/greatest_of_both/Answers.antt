use Rattle.std.proofs.Common.{ℕ, ◌+◌, List, arith, subst, sym}
use Rattle.flow_rows.specs.Rows.{SomeTooLarge, total_at}
use Rattle.flow_rows.proofs.Counting.{run_ascends}
use Rattle.flow_rows.proofs.Totals.{below_next, both_within}
use Rattle.flow_rows.proofs.Within.{within}
use Rattle.flow_rows.proofs.bounds.greatest_of_both.Goals as goal

pub returns-in_default : goal.returns-in_default
returns-in_default g c =
    let x = c.index-a-i.result in
    let h = c.in_default.ensures in
    subst (λ (q : List ℕ). SomeTooLarge (λ i. total_at c.args.a.now q i + total_at c.args.b.now q i)) (sym c.key.ensures)
    (h.0, omega (arith, h.1, within c.args.a.now c.loop-i.i x h.0 c.index-a-i.is c.loop-i-test.true))

pub loop-i-preserved : goal.loop-i-preserved
loop-i-preserved g c = record {
  most = omega arith;
  below = below_next c.args.a.now (total_at c.args.b.now) c.loop-i.i c.index-a-i.result c.loop-i.most c.max-most.result c.loop-i-test.true c.index-a-i.is (omega arith) c.loop-i.invariant.below (λ j. omega (arith, c.in-Some.ensures j));
}

pub returns : goal.returns
returns g c = both_within c.args.a.now (total_at c.args.b.now) c.loop-i.most (run_ascends c.args.a.now c.requires.a_run) (λ k d l j. c.loop-i.invariant.below k d (omega arith) j) (λ q i. omega (arith, c.requires.within q i))
