-- The number and the name that reports give for a fault.
use Rattle.std.specs.Prelude.{ℕ, List, codes}
use Rattle.flow_export.specs.declared.fault.ExportFault.{ExportFault}
use Rattle.flow_export.specs.declared.fault.ExportFault.TheVariants.{OutOfMemory, WriteFailed, TooManyRows}

abbrev pub number_of : ExportFault → ℕ
number_of OutOfMemory = 1
number_of WriteFailed = 2
number_of TooManyRows = 3

abbrev pub name_of : ExportFault → List ℕ
name_of OutOfMemory = codes "OutOfMemory"
name_of WriteFailed = codes "WriteFailed"
name_of TooManyRows = codes "TooManyRows"
