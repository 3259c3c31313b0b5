-- The number and the name that reports give for a fault of a part.
use Rattle.std.specs.Prelude.{ℕ, List, codes}
use Rattle.receipt_merging.specs.declared.part_fault.PartFault.{PartFault}
use Rattle.receipt_merging.specs.declared.part_fault.PartFault.TheVariants.{Receipt, NotItsTable, OtherPlan, InputTwice, Incomplete}

abbrev pub number_of : PartFault → ℕ
number_of Receipt = 7
number_of NotItsTable = 8
number_of OtherPlan = 9
number_of InputTwice = 10
number_of Incomplete = 11

abbrev pub name_of : PartFault → List ℕ
name_of Receipt = codes "Receipt"
name_of NotItsTable = codes "NotItsTable"
name_of OtherPlan = codes "OtherPlan"
name_of InputTwice = codes "InputTwice"
name_of Incomplete = codes "Incomplete"
