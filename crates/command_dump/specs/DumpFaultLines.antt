-- The line of a fault of the dump.
use Rattle.std.specs.Prelude.{ℕ, List, ◌++◌, codes}
use Rattle.ipfix_dump.specs.Faults as dump
use Rattle.ipfix_dump.specs.declared.fault.DumpFault.{DumpFault}
use Rattle.report_writing.specs.FaultLines.{fault_text}

abbrev pub dump_fault_line : DumpFault → List ℕ
dump_fault_line fault = codes "collectd: dump" ++ fault_text (dump.number_of fault) (dump.name_of fault)
