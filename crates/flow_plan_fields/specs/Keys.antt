-- Keys whose values are numbers of maps: NAME(ELEMENT), or NAME(ELEMENT, ELEMENT) and so on.
use Rattle.std.specs.Prelude.{ℕ, ◌+◌, ◌==◌, ◌||◌, nat_le, nat_lt, Bool, List, [], ◌∷◌, ◌++◌, map, length, codes, Option, Some, None, option_map, option_and_then, unwrap_or, if◌then◌else◌, string_bytes, Vec}
use Rattle.std.specs.declared.alloc.Global.{Global}
use Rattle.std.specs.List.{list_any, before_first, after_first, position_from, position_or_len, slice_split, flat_map}
use Rattle.std.specs.Str.{bytes_eq}
use Rattle.toml.specs.Data.{Data, Members, as_table, get_member}
use Rattle.ipfix_wire.specs.declared.specifier.ElementId.{ElementId}
use Rattle.ipfix_elements.specs.declared.kind.Kind.{Kind}
use Rattle.ipfix_elements.specs.declared.kind.Kind.TheVariants as kinds
use Rattle.element_registry.specs.Registries.{Known}
use Rattle.flow_table.specs.Plans.{key_kind}
use Rattle.flow_maps.specs.declared.map_key.AddressElement.{AddressElement}
use Rattle.flow_maps.specs.declared.map_key.MapKey.{MapKey}
use Rattle.flow_plan.specs.PlanTexts.{all_of, key_element, texts}
use Rattle.flow_plan_fields.specs.FilteredPlans.{where_key}
use Rattle.flow_plan_fields.specs.Maps.{text_at, values_at}
use Rattle.flow_plan_fields.specs.declared.addresses.LookUp.{LookUp}
use Rattle.flow_plan_fields.specs.declared.named.NamedKey.{NamedKey}
use Rattle.flow_plan_fields.specs.declared.named.NamedMap.{NamedMap}
use Rattle.flow_plan_fields.specs.declared.named.TheConstants.{EXAMPLES_PEN, MAX_MAP_KEYS}

-- a text that is a key, the element of its numbers, the place of its map, and the elements whose address is looked up
pub record KeyValue : Type 0 where
  pub text : List ℕ
  pub element : ElementId
  pub map : ℕ
  pub addresses : List AddressElement

abbrev pub key_value : NamedKey → KeyValue
key_value k = record { text = string_bytes k.text; element = k.key.element; map = k.key.map; addresses = k.key.addresses.items }

abbrev pub keys_in : Vec NamedKey Global → List KeyValue
keys_in keys = map key_value keys.items

-- what a key looks up, and as which element
abbrev pub map_key_value : MapKey → ElementId × ℕ × List AddressElement
map_key_value k = (k.element, k.map, k.addresses.items)

-- a key that has a text, without it
abbrev pub without_text : NamedKey → ElementId × ℕ × List AddressElement
without_text k = map_key_value k.key

-- what was found, if anything was
abbrev pub items_in : {X : Type 0} → Option (Vec X Global) → Option (List X)
items_in found = option_map (λ v. v.items) found

abbrev pub look_up_in : Option LookUp → Option (ℕ × List AddressElement)
look_up_in found = option_map (λ (l : LookUp). (l.map, l.addresses.items)) found

-- ---- what a text says

-- what is before and after the first such octet, if there is one
abbrev pub cut_at : ℕ → List ℕ → Option (List ℕ × List ℕ)
cut_at octet text = if nat_lt (position_or_len (λ b. b == octet) text) (length text) then Some (before_first (λ b. b == octet) text, after_first (λ b. b == octet) text) else None

-- a name, and what is in the parentheses after it
abbrev pub closed : List ℕ → List ℕ × List ℕ → Option (List ℕ × List ℕ)
closed name p = if length p.1 == 0 then Some (name, p.0) else None

abbrev pub call_in : List ℕ → Option (List ℕ × List ℕ)
call_in text = option_and_then (λ p. option_and_then (closed p.0) (cut_at 41 p.1)) (cut_at 40 text)

abbrev pub after_space : List ℕ → List ℕ
after_space [] = []
after_space (b ∷ text) = if b == 32 then text else b ∷ text

-- an element whose values are addresses of IPv4 or IPv6
abbrev pub address_kind : Kind → Option Kind
address_kind kinds.Ipv4 = Some kinds.Ipv4
address_kind kinds.Ipv6 = Some kinds.Ipv6
address_kind kind = None

abbrev pub address_element : List Known → ElementId → Option AddressElement
address_element known e = option_map (λ kind. record { element = e; kind = kind }) (address_kind (key_kind known e))

abbrev pub address_named : List Known → List ℕ → Option AddressElement
address_named known name = option_and_then (address_element known) (key_element known name)

-- each argument names such an element: between commas are the names, and there may be a space before each
abbrev pub addresses_of : List Known → List (List ℕ) → Option (List AddressElement)
addresses_of known parts = all_of (λ part. address_named known (after_space part)) parts

abbrev pub addresses_in : List Known → List ℕ → Option (List AddressElement)
addresses_in known text = addresses_of known (slice_split (λ b. b == 44) text)

abbrev pub is_map_named : List ℕ → NamedMap → Bool
is_map_named name m = bytes_eq (string_bytes m.name) name

abbrev pub place_of : List ℕ → List NamedMap → Option ℕ
place_of name maps = position_from (is_map_named name) 0 maps

-- the place of the map that is named, and its elements
abbrev pub looked_up : List Known → List NamedMap → List ℕ × List ℕ → Option (ℕ × List AddressElement)
looked_up known maps call =
    option_and_then (λ place. option_map (λ addresses. (place, addresses)) (addresses_in known call.1)) (place_of call.0 maps)

abbrev pub look_up : List Known → List NamedMap → List ℕ → Option (ℕ × List AddressElement)
look_up known maps text = option_and_then (looked_up known maps) (call_in text)

-- ---- the keys of some texts

-- the n-th has the number n under an enterprise that has numbers for examples (RFC 5612)
abbrev pub element_of : ℕ → ElementId
element_of n = record { pen = EXAMPLES_PEN; number = n }

abbrev pub is_text : List ℕ → KeyValue → Bool
is_text text k = bytes_eq k.text text

abbrev pub has_text : List ℕ → List KeyValue → Bool
has_text text keys = list_any (is_text text) keys

-- a text that is a key follows those before it, unless it is one of them
abbrev pub with_key : List KeyValue → List ℕ → Option (ℕ × List AddressElement) → List KeyValue
with_key before text None = before
with_key before text (Some found) =
    if has_text text before || nat_le MAX_MAP_KEYS (length before) then before
    else before ++ record { text = text; element = element_of (length before + 1); map = found.0; addresses = found.1 } ∷ []

module _ (known : List Known) (maps : List NamedMap) where
  abbrev pub keys_after : List KeyValue → List (List ℕ) → List KeyValue
  keys_after before [] = before
  keys_after before (text ∷ texts) = keys_after (with_key before text (look_up known maps text)) texts

  -- those of all
  abbrev pub keys_said : List (List ℕ) → List KeyValue
  keys_said texts = keys_after [] texts

-- ---- the texts of a document: those of its keys, and then the elements of its conditions

abbrev pub in_option : Option (List ℕ) → List (List ℕ)
in_option None = []
in_option (Some text) = text ∷ []

abbrev pub element_text : Data → Option (List ℕ)
element_text value = option_and_then (text_at (codes "element")) (as_table value)

-- the elements that some conditions name
abbrev pub named_in : List Data → List (List ℕ)
named_in conditions = flat_map (λ value. in_option (element_text value)) conditions

abbrev pub texts_of_keys : Members → List (List ℕ)
texts_of_keys d = unwrap_or (option_and_then texts (get_member (codes "keys") d)) []

-- the conditions of a document; what is no array has none
abbrev pub conditions_in : Members → List Data
conditions_in d = unwrap_or (values_at where_key d) []

abbrev pub texts_of_conditions : Members → List (List ℕ)
texts_of_conditions d = named_in (conditions_in d)

abbrev pub key_texts : Members → List (List ℕ)
key_texts d = texts_of_keys d ++ texts_of_conditions d
