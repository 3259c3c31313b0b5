-- The conditions of a [[where]] of a plan, or what makes none of it.
use Rattle.std.specs.Prelude.{◌≡◌, ◌<◌, ◌⊎◌, ℕ, ◌||◌, not, Bool, true, false, List, [], ◌∷◌, ◌++◌, length, find, codes, is_some, Option, Some, None, option_and_then, Result, Ok, Err, slice_get, string_bytes}
use Rattle.std.specs.List.{list_any}
use Rattle.std.specs.Str.{bytes_eq}
use Rattle.toml.specs.Data.{Data, Members, as_str, as_table, get_member}
use Rattle.ipfix_wire.specs.declared.specifier.ElementId.{ElementId}
use Rattle.ipfix_elements.specs.declared.kind.Kind.{Kind}
use Rattle.element_registry.specs.Registries.{Known}
use Rattle.flow_filter.specs.Faults.{IsCondition, IsFault}
use Rattle.flow_filter.specs.declared.condition.Condition.{Condition}
use Rattle.flow_filter.specs.declared.condition.Side.{Side}
use Rattle.flow_filter.specs.declared.condition.Side.TheVariants.{In, NotIn}
use Rattle.flow_filter.specs.declared.fault.FilterFault.{FilterFault}
use Rattle.flow_filter.specs.declared.fault.FilterFault.TheVariants as faults
use Rattle.flow_table.specs.Plans.{key_kind}
use Rattle.flow_plan.specs.Places.{names}
use Rattle.flow_plan.specs.PlanTexts.{key_element, texts}
use Rattle.flow_plan_fields.specs.declared.place.Sides.{Sides}
use Rattle.flow_plan_fields.specs.declared.place.WhereFault.{WhereFault}
use Rattle.flow_plan_fields.specs.declared.place.WhereFault.TheVariants.{NoTable, UnknownKey, NoElement, UnknownElement, NoSide, NoTexts, Kind as NoKind, Count, Text, OutOfMemory}

-- ---- its keys

-- a condition has these and no others
abbrev pub is_where_key : List ℕ → Bool
is_where_key name = list_any (bytes_eq name) (codes "element" ∷ codes "in" ∷ codes "not_in" ∷ [])

-- the first that conditions don't have
abbrev pub unknown_key : Members → Option (List ℕ)
unknown_key d = find (λ name. not (is_where_key name)) (names d)

abbrev pub element_text : Members → Option (List ℕ)
element_text d = option_and_then as_str (get_member (codes "element") d)

-- the key of a side
abbrev pub side_key : Side → List ℕ
side_key In = codes "in"
side_key NotIn = codes "not_in"

abbrev pub side_value : Side → Members → Option Data
side_value side d = get_member (side_key side) d

abbrev pub has_side : Members → Bool
has_side d = is_some (side_value In d) || is_some (side_value NotIn d)

-- ---- its sides

-- the condition of a side, by the value of its key, if that is there
abbrev pub IsSide : ElementId → Kind → Side → Option Data → Option Condition → Type 0
IsSide e k side None None = Unit {0}
IsSide e k side (Some value) (Some c) = (said : List (List ℕ)) × (texts value ≡ Some said) × IsCondition e k side said c
IsSide e k side value c = ⊥

-- where a fault has a place, a text stands there
abbrev pub IsPlaceIn : FilterFault → List (List ℕ) → Type 0
IsPlaceIn (faults.Text place) said = place < length said
IsPlaceIn fault said = Unit {0}

-- what a fault of the texts of a side tells of it
abbrev pub TellsFault : Side → List (List ℕ) → FilterFault → WhereFault → Type 0
TellsFault side said faults.Kind NoKind = Unit {0}
TellsFault side said faults.Count (Count s n) = (s ≡ side) × (n ≡ length said)
TellsFault side said (faults.Text place) (Text s text) = (s ≡ side) × (slice_get said place ≡ Some (string_bytes text))
TellsFault side said fault OutOfMemory = Unit {0}
TellsFault side said fault told = ⊥

-- what makes no condition of the texts of a side: the first fault that they have, as it is told
abbrev pub IsNoCondition : Kind → Side → Data → WhereFault → Type 0
IsNoCondition k side value told = (said : List (List ℕ)) × (fault : FilterFault) × (texts value ≡ Some said) × IsFault k said fault × TellsFault side said fault told

-- what makes none of its value
abbrev pub IsNoSide : Kind → Side → Option Data → WhereFault → Type 0
IsNoSide k side value OutOfMemory = Unit {0}
IsNoSide k side (Some value) (NoTexts s) = (s ≡ side) × (texts value ≡ None)
IsNoSide k side (Some value) told = IsNoCondition k side value told
IsNoSide k side None told = ⊥

-- what is read of a side
abbrev pub ReadsSide : ElementId → Kind → Side → Option Data → Result (Option Condition) WhereFault → Type 0
ReadsSide e k side value (Ok c) = IsSide e k side value c
ReadsSide e k side value (Err told) = IsNoSide k side value told

-- ---- the whole

-- the conditions, in their order
abbrev pub in_option : Option Condition → List Condition
in_option None = []
in_option (Some c) = c ∷ []

abbrev pub conditions_of : Sides → List Condition
conditions_of sides = in_option sides.one_of ++ in_option sides.none_of

module _ (known : List Known) where
  -- it has no other keys, and its element is this one
  pub record IsOfElement (d : Members) (e : ElementId) : Type 0 where
    pub no_other : unknown_key d ≡ None
    pub named : option_and_then (key_element known) (element_text d) ≡ Some e
    pub sided : has_side d ≡ true

  -- these are its conditions
  pub record AreSides (d : Members) (sides : Sides) : Type 0 where
    pub element : ElementId
    pub is_of : IsOfElement d element
    pub one_of : IsSide element (key_kind known element) In (side_value In d) sides.one_of
    pub none_of : IsSide element (key_kind known element) NotIn (side_value NotIn d) sides.none_of

  -- a side makes none: `not_in` only if `in` does, or is missing
  pub record HasNoSide (d : Members) (told : WhereFault) : Type 0 where
    pub element : ElementId
    pub is_of : IsOfElement d element
    pub side : IsNoSide (key_kind known element) In (side_value In d) told
        ⊎ (((c : Option Condition) × IsSide element (key_kind known element) In (side_value In d) c) × IsNoSide (key_kind known element) NotIn (side_value NotIn d) told)

  -- its first fault
  abbrev pub AreNoSides : Members → WhereFault → Type 0
  AreNoSides d NoTable = ⊥
  AreNoSides d (UnknownKey key) = unknown_key d ≡ Some (string_bytes key)
  AreNoSides d NoElement = (unknown_key d ≡ None) × (element_text d ≡ None)
  AreNoSides d (UnknownElement text) = (unknown_key d ≡ None) × (element_text d ≡ Some (string_bytes text)) × (key_element known (string_bytes text) ≡ None)
  AreNoSides d NoSide = (unknown_key d ≡ None) × ((e : ElementId) × (option_and_then (key_element known) (element_text d) ≡ Some e)) × (has_side d ≡ false)
  AreNoSides d OutOfMemory = Unit {0}
  AreNoSides d told = HasNoSide d told

  abbrev pub ReadsSides : Members → Result Sides WhereFault → Type 0
  ReadsSides d (Ok sides) = AreSides d sides
  ReadsSides d (Err told) = AreNoSides d told

  -- the conditions of a value, which is a table
  abbrev pub IsWhere : Data → Sides → Type 0
  IsWhere value sides = (d : Members) × (as_table value ≡ Some d) × AreSides d sides

  -- what makes none of it
  abbrev pub IsNoWhere : Data → WhereFault → Type 0
  IsNoWhere value NoTable = as_table value ≡ None
  IsNoWhere value told = (d : Members) × (as_table value ≡ Some d) × AreNoSides d told

  abbrev pub ReadsWhere : Data → Result Sides WhereFault → Type 0
  ReadsWhere value (Ok sides) = IsWhere value sides
  ReadsWhere value (Err OutOfMemory) = Unit {0}
  ReadsWhere value (Err told) = IsNoWhere value told
