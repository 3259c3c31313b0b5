use Rattle.flow_table.specs.Missing.{missing_of}
use Rattle.flow_table.specs.Tables.{tally_of}
use Rattle.flow_table.proofs.Bags.{table_bag}
use Rattle.flow_table.proofs.OneTable.{same_table}
use Rattle.laws_merge.proofs.laws.any_split_merges.Goals as goal

pub returns : goal.returns
returns c = λ plan rs others a b same has own.
    (same_table plan others (record a { tally = tally_of plan rs; missing = missing_of plan rs }) (record b { tally = tally_of plan others; missing = missing_of plan others }) (table_bag plan rs others (record a { tally = tally_of plan rs; missing = missing_of plan rs }) same has) own).rows
