-- The faults of plans: when a result has one, and the numbers and names that reports give for each.
use Rattle.std.specs.Prelude.{◌≡◌, ◌≢◌, ℕ, List, codes, Option, Some, Result, IfErr, IsErrOf}
use Rattle.flow_table.specs.declared.plan_fault.PlanFault.{PlanFault}
use Rattle.flow_table.specs.declared.plan_fault.PlanFault.TheVariants.{Length, Spread, KeyCount, KeyKind, Prefix, CounterCount, CounterKind, Repeated, OutOfMemory}

-- unless it is want of memory, a fault is the first that fits
abbrev pub IsFirstFault : Option PlanFault → PlanFault → Type 0
IsFirstFault first fault = fault ≢ OutOfMemory → first ≡ Some fault

-- the same of that of a result
abbrev pub FaultIsFirst : {X : Type 0} → Result X PlanFault → Option PlanFault → Type 0
FaultIsFirst result first = IfErr result (IsFirstFault first)

-- what holds if memory is wanting
abbrev pub IfNoMemory : {X : Type 0} → Result X PlanFault → Type 0 → Type 0
IfNoMemory result P = IsErrOf result OutOfMemory → P

abbrev pub number_of : PlanFault → ℕ
number_of Length = 1
number_of Spread = 2
number_of KeyCount = 3
number_of KeyKind = 4
number_of CounterCount = 5
number_of CounterKind = 6
number_of Repeated = 7
number_of OutOfMemory = 8
number_of Prefix = 9

abbrev pub name_of : PlanFault → List ℕ
name_of Length = codes "Length"
name_of Spread = codes "Spread"
name_of KeyCount = codes "KeyCount"
name_of KeyKind = codes "KeyKind"
name_of CounterCount = codes "CounterCount"
name_of CounterKind = codes "CounterKind"
name_of Repeated = codes "Repeated"
name_of OutOfMemory = codes "OutOfMemory"
name_of Prefix = codes "Prefix"
