use Rattle.json.specs.Value.{value_view}
use Rattle.table_receipts.specs.Objects.{file_json}
use Rattle.table_receipts.specs.Values.{FitsFile, file_value}
use Rattle.table_receipts.proofs.ListReads.{Reads}
use Rattle.table_receipts.proofs.part_reading.files_of.Given as goal

abbrev pub invariant-loop-item : goal.invariant-loop-item
invariant-loop-item l = Reads value_view file_value file_json FitsFile l.items l.item-index l.files.items
