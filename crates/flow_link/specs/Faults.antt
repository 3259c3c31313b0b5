-- The number and the name that reports give for a fault.
use Rattle.std.specs.Prelude.{ℕ, List, codes}
use Rattle.flow_link.specs.declared.fault.LinkFault.{LinkFault}
use Rattle.flow_link.specs.declared.fault.LinkFault.TheVariants.{Capacity, OutOfMemory}

abbrev pub number_of : LinkFault → ℕ
number_of Capacity = 1
number_of OutOfMemory = 2

abbrev pub name_of : LinkFault → List ℕ
name_of Capacity = codes "Capacity"
name_of OutOfMemory = codes "OutOfMemory"
