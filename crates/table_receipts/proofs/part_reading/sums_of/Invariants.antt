use Rattle.json.specs.Value.{value_view}
use Rattle.table_receipts.specs.Objects.{sum_json}
use Rattle.table_receipts.specs.Values.{FitsSum, sum_value}
use Rattle.table_receipts.proofs.ListReads.{Reads}
use Rattle.table_receipts.proofs.part_reading.sums_of.Given as goal

abbrev pub invariant-loop-item : goal.invariant-loop-item
invariant-loop-item l = Reads value_view sum_value sum_json FitsSum l.items l.item-index l.sums.items
