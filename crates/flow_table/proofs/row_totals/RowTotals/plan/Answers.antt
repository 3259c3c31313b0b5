use Rattle.std.proofs.Common.{refl}
use Rattle.flow_table.specs.RowTotals.{totals_plan}
use Rattle.flow_table.proofs.row_totals.RowTotals.plan.Goals as goal

pub returns : goal.returns
unfolding totals_plan
returns c = refl
