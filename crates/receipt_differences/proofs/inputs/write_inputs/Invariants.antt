use Rattle.std.proofs.Common.{take}
use Rattle.std.specs.List.{flat_map}
use Rattle.std.specs.Io.KnownBytes.{Appends}
use Rattle.table_receipts.specs.Values.{input_value}
use Rattle.table_receipts.specs.declared.receipt.InputReceipt.{InputReceipt}
use Rattle.receipt_differences.specs.Orders.{values_of}
use Rattle.receipt_differences.specs.Inputs.{input_differs}
use Rattle.receipt_differences.proofs.inputs.write_inputs.Given as goal

-- the lines of those so far were told
abbrev pub invariant-loop-input : goal.invariant-loop-input
invariant-loop-input g l = record {
  told : Appends (g.E.WriteLines.lines l.initial.err).contents (g.E.WriteLines.lines l.err).contents
      (flat_map (λ (i : InputReceipt). input_differs (values_of l.own) (values_of l.others) (input_value i)) (take l.input-index l.inputs));
  kept : (g.E.WriteLines.lines l.initial.err).failed → (g.E.WriteLines.lines l.err).failed;
}
