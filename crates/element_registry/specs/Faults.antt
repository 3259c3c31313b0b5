-- Why a file says no elements.
use Rattle.std.specs.Prelude.{◌≡◌, ℕ, List, codes, Result, Ok, Err}
use Rattle.element_registry.specs.declared.fault.Heading.{Heading}
use Rattle.element_registry.specs.declared.fault.Heading.TheVariants as headings
use Rattle.element_registry.specs.declared.fault.ElementsFault.{ElementsFault}
use Rattle.element_registry.specs.declared.fault.ElementsFault.TheVariants.{Column, NotCsv, Number, Enterprise, Name, NumberTwice, NameTwice, TooMany, OutOfMemory}
use Rattle.element_registry.specs.declared.fault.ElementsError.{ElementsError}

abbrev pub column_name : Heading → List ℕ
column_name headings.Number = codes "ElementID"
column_name headings.Name = codes "Name"
column_name headings.DataType = codes "Abstract Data Type"

abbrev pub fault_of : ElementsError → ElementsFault
fault_of e = e.fault

-- the numbers and the names that reports give; 1 is a file that can't be opened
abbrev pub number_of : ElementsFault → ℕ
number_of NotCsv = 2
number_of (Column column) = 3
number_of Number = 4
number_of Enterprise = 5
number_of Name = 6
number_of NumberTwice = 7
number_of NameTwice = 8
number_of TooMany = 9
number_of OutOfMemory = 10

abbrev pub name_of : ElementsFault → List ℕ
name_of NotCsv = codes "NotCsv"
name_of (Column column) = codes "Column"
name_of Number = codes "Number"
name_of Enterprise = codes "Enterprise"
name_of Name = codes "Name"
name_of NumberTwice = codes "NumberTwice"
name_of NameTwice = codes "NameTwice"
name_of TooMany = codes "TooMany"
name_of OutOfMemory = codes "OutOfMemory"

-- what reading gives: a value, or the first fault
abbrev pub Read : Type 0 → Type 0
Read X = Result X ElementsFault

-- reading gives the fault; nothing is said of want of memory
abbrev pub Fails : {X : Type 0} → ElementsFault → Read X → Type 0
Fails OutOfMemory read = Unit {0}
Fails fault read = read ≡ Err fault

-- what a function answered, seen by view, is what reading gives
abbrev pub Gives : {X Y : Type 0} → (X → Y) → Result X ElementsFault → Read Y → Type 0
Gives view (Ok x) read = read ≡ Ok (view x)
Gives view (Err fault) read = Fails fault read
