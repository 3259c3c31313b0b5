use Rattle.laws_merge.proofs.OneRow.{one_row}
use Rattle.laws_merge.proofs.laws.one_row.Goals as goal

pub returns : goal.returns
returns c = λ plan r is_plan a b. one_row plan r a b is_plan
