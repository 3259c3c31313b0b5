-- The values of a document's keys as the code keeps them, and what a part of reading says of an error.
use Rattle.std.specs.Prelude.{◌≡◌, ℕ, List, map, Vec, Option, Some, is_none, find, Result, Ok, Err, slice_get, string_bytes}
use denote.Bor.{Bor}
use Rattle.std.specs.Option.{ok_or}
use Rattle.std.specs.declared.alloc.Global.{Global}
use Rattle.toml.specs.Data.{Data, Members}
use Rattle.element_registry.specs.Registries.{Known}
use Rattle.flow_table.specs.Plans.{PlanValue}
use Rattle.flow_plan.specs.declared.error.PlanKey.{PlanKey}
use Rattle.flow_plan.specs.declared.error.PlanPlace.{PlanPlace}
use Rattle.flow_plan.specs.declared.error.PlanPlace.TheVariants.{Text}
use Rattle.flow_plan.specs.declared.error.PlanTextError.{PlanTextError}
use Rattle.flow_plan.specs.declared.error.PlanTextError.TheVariants.{Missing, WrongKind, UnknownElement, Plan, OutOfMemory}
use Rattle.flow_plan.specs.declared.fault.PlanTextFault.TheVariants as faults
use Rattle.flow_plan.specs.declared.fields.Fields.{Fields}
use Rattle.flow_plan.specs.Faults.{Read, Fails}
use Rattle.flow_plan.specs.Blames.{IsPlace}
use Rattle.flow_plan.specs.Places.{fault_of, refused_key, value_of, IsUnknown}
use Rattle.flow_plan.specs.PlanTexts as plan

abbrev pub shown_all : List (Bor (List ℕ)) → List (List ℕ)
shown_all texts = map (λ t. t.now) texts

abbrev pub texts_of : Vec (Bor (List ℕ)) Global → List (List ℕ)
texts_of texts = shown_all texts.items

abbrev pub shown : Fields → plan.Fields
shown f = plan.fields f.length f.method f.max_spread (texts_of f.keys) (texts_of f.counters) f.choices

-- what a function answered, seen by view, is what reading gives, and this is told of an error
abbrev pub GivesOr : {X Y : Type 0} → (X → Y) → (PlanTextError → Type 0) → Result X PlanTextError → Read Y → Type 0
GivesOr view Told (Ok x) read = read ≡ Ok (view x)
GivesOr view Told (Err e) read = Fails (fault_of e) read × Told e

-- the plan that is read of this, or what is told of it
abbrev pub ReadsPlan : {A : Type 0} → (List Known → A → PlanTextError → Type 0) → (List Known → A → Read PlanValue) → List Known → A → Result PlanValue PlanTextError → Type 0
ReadsPlan Told read known x result = GivesOr (λ p. p) (Told known x) result (read known x)

-- the value of this key is refused
abbrev pub IsOfKey : PlanKey → PlanTextError → Type 0
IsOfKey k (Missing key) = k ≡ key
IsOfKey k (WrongKind key) = k ≡ key
IsOfKey k OutOfMemory = Unit {0}
IsOfKey k _ = ⊥

-- what is read of the value at this key, or the key is told
abbrev pub ReadsValue : {X Y : Type 0} → (X → Y) → PlanKey → Members → (Option Data → Read Y) → Result X PlanTextError → Type 0
ReadsValue view key d read result = GivesOr view (IsOfKey key) result (read (value_of key d))

-- the value is the result itself
abbrev pub ReadsKey : {X : Type 0} → PlanKey → Members → (Option Data → Read X) → Result X PlanTextError → Type 0
ReadsKey key d read result = ReadsValue (λ x. x) key d read result

-- what is read of all keys, or the refused one is told
abbrev pub ReadsFields : Members → Result Fields PlanTextError → Type 0
ReadsFields d result = GivesOr shown (IsOfKey (refused_key d)) result (plan.fields_of d)

-- a text of this key names no element
abbrev pub IsOfText : PlanKey → Option (List ℕ) → PlanTextError → Type 0
IsOfText k unknown (UnknownElement key text) = (k ≡ key) × (unknown ≡ Some (string_bytes text))
IsOfText k unknown OutOfMemory = Unit {0}
IsOfText k unknown _ = ⊥

-- what each text of this key names, or the first that names nothing is told
abbrev pub NamesEach : {X : Type 0} → PlanKey → (List ℕ → Option X) → List (List ℕ) → Result (Vec X Global) PlanTextError → Type 0
NamesEach key named texts result =
    GivesOr (λ each. each.items) (IsOfText key (find (λ text. is_none (named text)) texts)) result (ok_or (plan.all_of named texts) faults.UnknownElement)

-- the values of a document make no plan
abbrev pub IsOfValues : List Known → plan.Fields → PlanTextError → Type 0
IsOfValues known f (UnknownElement key text) = IsUnknown known f key (string_bytes text)
IsOfValues known f (Plan fault place) = IsPlace known f fault place
IsOfValues known f OutOfMemory = Unit {0}
IsOfValues known f _ = ⊥

-- the text at this place among those of this key
abbrev pub IsTextAt : PlanKey → List (List ℕ) → ℕ → PlanPlace → Type 0
IsTextAt k texts n (Text key text) = (k ≡ key) × (slice_get texts n ≡ Some (string_bytes text))
IsTextAt k texts n _ = ⊥
