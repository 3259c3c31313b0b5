use Rattle.std.proofs.Common.{ℕ, List, arith}
use Rattle.flow_rows.proofs.Counting.{run_ascends}
use Rattle.flow_rows.proofs.Totals.{both_within}
use Rattle.flow_rows.proofs.shedding.greatest_of.Goals as goal

pub returns : goal.returns
returns g c = λ q i.
    omega (arith, both_within c.args.run.now (λ (p : List ℕ) (k : ℕ). 0) c.loop-i.most (run_ascends c.args.run.now c.requires) (λ k d l j. omega (arith, c.loop-i.invariant k d (omega arith) j)) (λ p k. omega arith) q i)
