-- The number and the name that the program prints for a fault.
use Rattle.std.specs.Prelude.{ℕ, List, codes}
use Rattle.ipfix_dump.specs.declared.fault.DumpFault.{DumpFault}
use Rattle.ipfix_dump.specs.declared.fault.DumpFault.TheVariants.{OutOfMemory, WriteFailed}

abbrev pub number_of : DumpFault → ℕ
number_of OutOfMemory = 1
number_of WriteFailed = 2

abbrev pub name_of : DumpFault → List ℕ
name_of OutOfMemory = codes "OutOfMemory"
name_of WriteFailed = codes "WriteFailed"
