use Rattle.json.specs.Value.{value_view}
use Rattle.table_receipts.specs.Objects.{input_json}
use Rattle.table_receipts.specs.Values.{FitsInput, input_value}
use Rattle.table_receipts.proofs.ListReads.{Reads}
use Rattle.table_receipts.proofs.part_reading.inputs_of.Given as goal

abbrev pub invariant-loop-item : goal.invariant-loop-item
invariant-loop-item l = Reads value_view input_value input_json FitsInput l.items l.item-index l.inputs.items
