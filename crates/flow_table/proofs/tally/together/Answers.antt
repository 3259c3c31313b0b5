use Rattle.flow_table.proofs.Holding.{counts_fit}
use Rattle.flow_table.proofs.Sums.{same_tally}
use Rattle.flow_table.proofs.tally.together.Goals as goal

pub returns-clause-ok : goal.returns-clause-ok
returns-clause-ok c = (
  same_tally _ _ _ _ _ _ _ _ _ _ _ _ c.in_ok-sum.ensures.ok.0 c.in_ok-sum-2.ensures.ok.0 c.in_ok-sum-3.ensures.ok.0 c.in_ok-sum-4.ensures.ok.0 c.in_ok-sum-5.ensures.ok.0 c.in_ok-sum-6.ensures.ok.0,
  counts_fit c.in_ok-sum.field-0 c.in_ok-sum-2.field-0 c.in_ok-sum-3.field-0 c.in_ok-sum-4.field-0 c.in_ok-sum-5.field-0 c.in_ok-sum-6.field-0
      c.in_ok-sum.ensures.ok.1 c.in_ok-sum-2.ensures.ok.1 c.in_ok-sum-3.ensures.ok.1 c.in_ok-sum-4.ensures.ok.1 c.in_ok-sum-5.ensures.ok.1 c.in_ok-sum-6.ensures.ok.1,
)
