-- The line of a fault of the export.
use Rattle.std.specs.Prelude.{ℕ, List, ◌++◌, codes}
use Rattle.flow_export.specs.Faults as export
use Rattle.flow_export.specs.declared.fault.ExportFault.{ExportFault}
use Rattle.report_writing.specs.FaultLines.{fault_text}

abbrev pub export_fault_line : ExportFault → List ℕ
export_fault_line fault = codes "collectd: export" ++ fault_text (export.number_of fault) (export.name_of fault)
