-- The number and the name that reports give for a fault, and what a call that may run out of memory answers.
use Rattle.std.specs.Prelude.{◌≡◌, ℕ, List, codes, Result, Ok, Err}
use Rattle.flow_plan.specs.declared.fault.PlanTextFault.{PlanTextFault}
use Rattle.flow_plan.specs.declared.fault.PlanTextFault.TheVariants.{NotToml, UnknownField, Missing, WrongKind, UnknownElement, Plan, OutOfMemory}

abbrev pub number_of : PlanTextFault → ℕ
number_of NotToml = 1
number_of UnknownField = 2
number_of Missing = 3
number_of WrongKind = 4
number_of UnknownElement = 5
number_of (Plan fault) = 6
number_of OutOfMemory = 7

abbrev pub name_of : PlanTextFault → List ℕ
name_of NotToml = codes "NotToml"
name_of UnknownField = codes "UnknownField"
name_of Missing = codes "Missing"
name_of WrongKind = codes "WrongKind"
name_of UnknownElement = codes "UnknownElement"
name_of (Plan fault) = codes "Plan"
name_of OutOfMemory = codes "OutOfMemory"

-- what reading gives: a value, or the first fault
abbrev pub Read : Type 0 → Type 0
Read X = Result X PlanTextFault

-- the first fault stays
infixl 10 ◌>>=◌
abbrev pub ◌>>=◌ : {A B : Type 0} → Read A → (A → Read B) → Read B
(Ok x) >>= f = f x
(Err e) >>= f = Err e

-- reading fails with this fault, or memory ran out, of which reading knows nothing
abbrev pub Fails : {Y : Type 0} → PlanTextFault → Read Y → Type 0
Fails OutOfMemory read = Unit {0}
Fails e read = read ≡ Err e
