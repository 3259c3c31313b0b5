use Rattle.flow_table.proofs.Bags.{too_large_more}
use Rattle.flow_table.proofs.laws.too_large_stays.Goals as goal

pub returns : goal.returns
returns c = too_large_more
