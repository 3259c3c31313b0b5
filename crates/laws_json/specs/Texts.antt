-- The text of a value of JSON (RFC 8259) with no space between its parts, and what holds of the texts in a value.
use Rattle.std.specs.Prelude.{ℕ, ℤ, pos, negsuc, ◌<◌, ◌^◌, ◌≡◌, Bool, true, false, List, [], ◌∷◌, ◌++◌, codes, ⊤, unsigned_abs}
use Rattle.std.specs.Fmt.{signed_decimal}
use Rattle.json.specs.Json.{Json, null, boolean, number, string, array, object, Items, no_items, item, Members, no_members, member}
use Rattle.element_values.specs.FieldTexts.{boolean_text}
use Rattle.element_values.specs.Strings.{json_string}
use Rattle.ipfix_dump.specs.JsonLines.{comma_if}
use Rattle.laws_json.specs.Lines.{newline}

-- each string with its escapes; `later` tells whether another item or member stands before these
abbrev mutual
  pub compact_text : Json → List ℕ
  compact_text null = codes "null"
  compact_text (boolean b) = boolean_text b
  compact_text (number s) = s
  compact_text (string s) = json_string s
  compact_text (array items) = codes "[" ++ items_text false items
  compact_text (object members) = codes "{" ++ members_text false members

  pub items_text : Bool → Items → List ℕ
  items_text later no_items = codes "]"
  items_text later (item value items) = comma_if later ++ (compact_text value ++ items_text true items)

  pub members_text : Bool → Members → List ℕ
  members_text later no_members = codes "}"
  members_text later (member name value members) = comma_if later ++ (json_string name ++ (codes ":" ++ (compact_text value ++ members_text true members)))

-- a value as a line
abbrev pub line_of : Json → List ℕ
line_of value = compact_text value ++ newline ∷ []

-- N holds of the text of each number of a value, and S of each string and name
abbrev mutual
  pub TextsAre : (List ℕ → Type 0) → (List ℕ → Type 0) → Json → Type 0
  TextsAre N S null = ⊤
  TextsAre N S (boolean b) = ⊤
  TextsAre N S (number s) = N s
  TextsAre N S (string s) = S s
  TextsAre N S (array items) = ItemsAre N S items
  TextsAre N S (object members) = MembersAre N S members

  pub ItemsAre : (List ℕ → Type 0) → (List ℕ → Type 0) → Items → Type 0
  ItemsAre N S no_items = ⊤
  ItemsAre N S (item value items) = TextsAre N S value × ItemsAre N S items

  pub MembersAre : (List ℕ → Type 0) → (List ℕ → Type 0) → Members → Type 0
  MembersAre N S no_members = ⊤
  MembersAre N S (member name value members) = S name × TextsAre N S value × MembersAre N S members

-- a number in decimal, with a minus if it is below 0, and P holds of it
abbrev pub IsDecimal : (ℤ → Type 0) → List ℕ → Type 0
IsDecimal P s = (z : ℤ) × (s ≡ signed_decimal z) × P z

-- each number of a value is written in decimal, and P holds of it
abbrev pub NumbersAre : (ℤ → Type 0) → Json → Type 0
NumbersAre P value = TextsAre (IsDecimal P) (λ s. ⊤) value

-- a reader that holds numbers as floats of 64 bits has this one exactly (RFC 7493, section 2.2)
abbrev pub IsExact : ℤ → Type 0
IsExact z = unsigned_abs z < 2 ^ 53

-- the same, and it has no sign
abbrev pub IsExactNatural : ℤ → Type 0
IsExactNatural (pos n) = n < 2 ^ 53
IsExactNatural (negsuc n) = ⊥
