use Rattle.std.proofs.Common.{List}
use Rattle.std.specs.Prelude.{map}
use Rattle.table_receipts.specs.declared.receipt.InputReceipt.{InputReceipt}
use Rattle.table_receipts.specs.Objects.{input_json}
use Rattle.table_receipts.specs.Values.{input_value}
use Rattle.table_receipts.proofs.Listing.{Writing}
use Rattle.table_receipts.proofs.parts.write_inputs.Given as goal

abbrev pub invariant-loop-input : goal.invariant-loop-input
invariant-loop-input l = Writing (λ (xs : List InputReceipt). map input_json (map input_value xs)) l.inputs l.input-index l.initial.writer l.writer
