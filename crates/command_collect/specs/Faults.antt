-- Why there is no receipt, or no table, and the line of it.
use Rattle.std.specs.Prelude.{ℕ, ◌+◌, List, ◌++◌, codes, decimal}
use Rattle.flow_export.specs.declared.fault.ExportFault.{ExportFault}
use Rattle.output_tables.specs.ExportFaultLines.{export_fault_line}
use Rattle.report_writing.specs.FaultLines.{fault_text}
use Rattle.command_collect.specs.declared.receipts.fault.ReceiptFault.{ReceiptFault}
use Rattle.command_collect.specs.declared.receipts.fault.ReceiptFault.TheVariants.{OutOfMemory, WriteFailed, InputTwice}
use Rattle.command_collect.specs.declared.receipts.fault.RunFault.{RunFault}
use Rattle.command_collect.specs.declared.receipts.fault.RunFault.TheVariants.{Export, Receipt}

abbrev pub number_of : ReceiptFault → ℕ
number_of OutOfMemory = 1
number_of WriteFailed = 2
number_of (InputTwice first second) = 3

abbrev pub name_of : ReceiptFault → List ℕ
name_of OutOfMemory = codes "OutOfMemory"
name_of WriteFailed = codes "WriteFailed"
name_of (InputTwice first second) = codes "InputTwice"

-- which inputs they are, counted from 1
unfoldable pub twice_line : ℕ → ℕ → List ℕ
twice_line first second =
    codes "collectd: receipt: fault 3 InputTwice: inputs " ++ (decimal first ++ (codes " and " ++ (decimal second ++ codes "\n")))

abbrev pub receipt_fault_line : ReceiptFault → List ℕ
receipt_fault_line (InputTwice first second) = twice_line (first + 1) (second + 1)
receipt_fault_line fault = codes "collectd: " ++ (codes "receipt" ++ fault_text (number_of fault) (name_of fault))

abbrev pub run_fault_line : RunFault → List ℕ
run_fault_line (Export fault) = export_fault_line fault
run_fault_line (Receipt fault) = receipt_fault_line fault
