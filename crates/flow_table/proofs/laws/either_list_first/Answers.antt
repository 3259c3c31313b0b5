use Rattle.flow_table.proofs.Bags.{turned}
use Rattle.flow_table.proofs.laws.either_list_first.Goals as goal

pub returns : goal.returns
returns c = turned
