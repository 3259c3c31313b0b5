use Rattle.flow_table.proofs.Bags.{table_bag, too_large_bag}
use Rattle.flow_table.proofs.laws.order_is_free.Goals as goal

pub returns-clause-table : goal.returns-clause-table
returns-clause-table c = λ plan table rs qs. table_bag plan rs qs table

pub returns-clause-too_large : goal.returns-clause-too_large
returns-clause-too_large c = too_large_bag
