-- What is read of an object of JSON: the value that it was written as.
use Rattle.std.specs.Prelude.{◌≡◌, ℕ, List, All, map, Option, Some, option_map, Result, IfOk, Vec}
use Rattle.std.specs.Borrow.{Bor}
use Rattle.std.specs.declared.alloc.Global.{Global}
use Rattle.json.specs.Find.{get}
use Rattle.json.specs.Json.{Json}
use Rattle.json.specs.Value.{value_view}
use Rattle.json.specs.declared.value.Value.{Value}
use Rattle.table_receipts.specs.Objects.{list_json}

-- an object has this under a name
abbrev pub Has : {A : Type 0} → Value A → List ℕ → Json → Type 0
Has object name j = get name (value_view object) ≡ Some j

-- a list was found, and these are its items
abbrev pub AreItems : {A : Type 0} → Option (Bor (List (Value A))) → List Json → Type 0
AreItems found js = option_map (λ list. map value_view list.now) found ≡ Some js

-- the value of each item of a vector
abbrev pub values_in : {R V : Type 0} → (R → V) → Vec R Global → List V
values_in value items = map value items.items

-- whichever value is told, what was read has that value, unless memory ran out
abbrev pub Reads : {R V E : Type 0} → Result R E → (R → V) → (V → Type 0) → Type 0
Reads {R} {V} answer value IsTold = (v : V) → IsTold v → IfOk answer (λ read. value read ≡ v)

-- whichever value that has room in these types is told, what was read has that value, unless memory ran out
abbrev pub ReadsBack : {R V E : Type 0} → Result R E → (R → V) → (V → Type 0) → (V → Type 0) → Type 0
ReadsBack {R} {V} answer value Fits IsTold = (v : V) → Fits v → IsTold v → IfOk answer (λ read. value read ≡ v)

-- whichever values that have room in these types an object has as a list under a name, those that were read are these, unless memory ran out
abbrev pub ReadsList : {R V E A : Type 0} → Result (Vec R Global) E → (R → V) → (V → Type 0) → (V → Json) → Value A → List ℕ → Type 0
ReadsList {R} {V} answer value Fits json object name = (vs : List V) → All Fits vs → Has object name (list_json json vs) → IfOk answer (λ read. values_in value read ≡ vs)
