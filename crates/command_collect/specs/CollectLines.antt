-- The line of a fault of collecting.
use Rattle.std.specs.Prelude.{ℕ, List, ◌++◌, codes}
use Rattle.flow_collect.specs.Faults.{number_of, name_of}
use Rattle.flow_collect.specs.declared.fault.CollectFault.{CollectFault}
use Rattle.report_writing.specs.FaultLines.{fault_text}

abbrev pub collect_fault_line : CollectFault → List ℕ
collect_fault_line fault = codes "collectd: collect" ++ fault_text (number_of fault) (name_of fault)
