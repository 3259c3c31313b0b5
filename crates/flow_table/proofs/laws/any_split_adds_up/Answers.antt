use Rattle.flow_table.proofs.TablesAdded.{any_order}
use Rattle.flow_table.proofs.laws.any_split_adds_up.Goals as goal

pub returns : goal.returns
returns c = λ plan lists others a b own more same. any_order plan lists others own.tables more.tables a b own.each more.each same own.sums more.sums
