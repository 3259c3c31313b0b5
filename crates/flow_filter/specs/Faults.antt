-- The condition that texts make, or why they make none.
use Rattle.std.specs.Prelude.{◌≡◌, ℕ, ◌<◌, ◌≤◌, ◌⊎◌, true, false, List, map, take, length, slice_get, Vec, Some, Result, Ok, Err}
use denote.Bor.{Bor}
use Rattle.std.specs.List.{AllZip}
use Rattle.std.specs.declared.alloc.Global.{Global}
use Rattle.ipfix_wire.specs.declared.specifier.ElementId.{ElementId}
use Rattle.ipfix_elements.specs.declared.kind.Kind.{Kind}
use Rattle.flow_filter.specs.declared.condition.Condition.{Condition}
use Rattle.flow_filter.specs.declared.condition.Side.{Side}
use Rattle.flow_filter.specs.declared.condition.TheConstants.{MAX_TEXTS}
use Rattle.flow_filter.specs.declared.fault.FilterFault.{FilterFault}
use Rattle.flow_filter.specs.declared.fault.FilterFault.TheVariants as faults
use Rattle.flow_filter.specs.declared.value_range.ValueRange.{ValueRange}
use Rattle.flow_filter.specs.Texts.{IsNoText, IsText}
use Rattle.flow_filter.specs.Values.{is_comparable}

abbrev pub texts_of : List (Bor (List ℕ)) → List (List ℕ)
texts_of texts = map (λ t. t.now) texts

-- each text says what has its place
abbrev pub AreTexts : Kind → List (List ℕ) → List ValueRange → Type 0
AreTexts kind texts ranges = AllZip (IsText kind) texts ranges

-- 1 to 64 texts
abbrev pub IsCount : List (List ℕ) → Type 0
IsCount texts = (0 < length texts) × (length texts ≤ MAX_TEXTS)

-- the condition of these texts
pub record IsCondition (e : ElementId) (k : Kind) (s : Side) (texts : List (List ℕ)) (c : Condition) : Type 0 where
  pub comparable : is_comparable k ≡ true
  pub count : IsCount texts
  pub element : c.element ≡ e
  pub kind : c.kind ≡ k
  pub side : c.side ≡ s
  pub ranges : AreTexts k texts c.ranges.items

-- the text at this place says nothing, and each one before it says something
pub record IsFirstUnsaid (kind : Kind) (texts : List (List ℕ)) (place : ℕ) : Type 0 where
  pub text : List ℕ
  pub here : slice_get texts place ≡ Some text
  pub unsaid : IsNoText kind text
  pub said : List ValueRange
  pub before : AreTexts kind (take place texts) said

-- the first fault of these texts; memory may run out at any
abbrev pub IsFault : Kind → List (List ℕ) → FilterFault → Type 0
IsFault kind texts faults.Kind = is_comparable kind ≡ false
IsFault kind texts faults.Count = (is_comparable kind ≡ true) × ((length texts ≡ 0) ⊎ (MAX_TEXTS < length texts))
IsFault kind texts (faults.Text place) = (is_comparable kind ≡ true) × IsCount texts × IsFirstUnsaid kind texts place
IsFault kind texts faults.OutOfMemory = Unit {0}

-- what each of the texts says, or the first that says nothing
abbrev pub ReadsTexts : Kind → List (List ℕ) → Result (Vec ValueRange Global) FilterFault → Type 0
ReadsTexts kind texts (Ok ranges) = AreTexts kind texts ranges.items
ReadsTexts kind texts (Err (faults.Text place)) = IsFirstUnsaid kind texts place
ReadsTexts kind texts (Err faults.OutOfMemory) = Unit {0}
ReadsTexts kind texts (Err fault) = ⊥
