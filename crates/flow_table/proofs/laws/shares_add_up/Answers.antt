use Rattle.flow_table.proofs.ShareSums.{shares_add_up}
use Rattle.flow_table.proofs.laws.shares_add_up.Goals as goal

pub returns : goal.returns
returns c = shares_add_up
