use Rattle.std.proofs.Common.{◌≡◌, map, take}
use Rattle.flow_table.specs.AddedUp.{rows_in}
use Rattle.flow_table.specs.SameTables.{value_of}
use Rattle.flow_table.proofs.flat_table.FlatTable.all_rows.Given as goal

abbrev pub invariant-loop-index : goal.invariant-loop-index
invariant-loop-index l = map value_of l.rows.items ≡ take l.index (rows_in l.self)
