use Rattle.flow_table.proofs.Bags.{permuted}
use Rattle.flow_table.proofs.laws.permutation_is_same_bag.Goals as goal

pub returns : goal.returns
returns c = permuted
