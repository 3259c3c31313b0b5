use Rattle.std.proofs.Common.{take}
use Rattle.std.specs.List.{flat_map}
use Rattle.std.specs.Io.KnownBytes.{Appends}
use Rattle.table_receipts.specs.Values.{input_value}
use Rattle.table_receipts.specs.declared.receipt.InputReceipt.{InputReceipt}
use Rattle.receipt_differences.specs.Orders.{values_of}
use Rattle.receipt_differences.specs.Inputs.{file_differs}
use Rattle.receipt_differences.proofs.inputs.write_files.Given as goal

-- the lines of those so far were told
abbrev pub invariant-loop-file : goal.invariant-loop-file
invariant-loop-file g l = record {
  told : Appends (g.E.WriteLines.lines l.initial.err).contents (g.E.WriteLines.lines l.err).contents
      (flat_map (λ (i : InputReceipt). file_differs (values_of l.own) (values_of l.others) (input_value i)) (take l.file-index l.files));
  kept : (g.E.WriteLines.lines l.initial.err).failed → (g.E.WriteLines.lines l.err).failed;
}
