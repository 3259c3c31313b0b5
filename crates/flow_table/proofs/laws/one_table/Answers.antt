use Rattle.flow_table.proofs.OneTable.{same_table}
use Rattle.flow_table.proofs.laws.one_table.Goals as goal

pub returns : goal.returns
returns c = same_table
