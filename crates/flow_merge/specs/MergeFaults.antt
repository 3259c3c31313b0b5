-- The number and the name that reports give for a fault of merging, and faults that are others'.
use Rattle.std.specs.Prelude.{ℕ, List, codes}
use Rattle.flow_table.specs.declared.table_fault.TableFault.{TableFault}
use Rattle.flow_table.specs.declared.table_fault.TableFault.TheVariants as tables
use Rattle.flow_merge.specs.declared.row_fault.RowFault.{RowFault}
use Rattle.flow_merge.specs.declared.row_fault.RowFault.TheVariants as rows
use Rattle.flow_merge.specs.declared.merge_fault.MergeFault.{MergeFault}
use Rattle.flow_merge.specs.declared.merge_fault.MergeFault.TheVariants.{OutOfMemory, SumTooLarge, Session, NotAnExport, Lost, Row, Border}

abbrev pub number_of : MergeFault → ℕ
number_of OutOfMemory = 1
number_of SumTooLarge = 2
number_of (Session fault) = 3
number_of NotAnExport = 4
number_of Lost = 5
number_of (Row fault) = 6
number_of (Border row) = 12

abbrev pub name_of : MergeFault → List ℕ
name_of OutOfMemory = codes "OutOfMemory"
name_of SumTooLarge = codes "SumTooLarge"
name_of (Session fault) = codes "Session"
name_of NotAnExport = codes "NotAnExport"
name_of Lost = codes "Lost"
name_of (Row fault) = codes "Row"
name_of (Border row) = codes "Border"

-- the fault of the record of this number in a file, and that of totals
abbrev pub fault_of_row : ℕ → RowFault → MergeFault
fault_of_row number rows.OutOfMemory = OutOfMemory
fault_of_row number rows.Border = Border number
fault_of_row number fault = Row fault

abbrev pub fault_of_table : TableFault → MergeFault
fault_of_table tables.OutOfMemory = OutOfMemory
fault_of_table tables.SumTooLarge = SumTooLarge
