use Rattle.flow_table.proofs.Bags.{interleaved}
use Rattle.flow_table.proofs.laws.interleaving_is_same_bag.Goals as goal

pub returns : goal.returns
returns c = interleaved
