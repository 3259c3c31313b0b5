-- The value of JSON that a data record is dumped as.
use Rattle.std.specs.Prelude.{ℕ, ℤ, unsigned_abs, ◌<◌, ◌^◌, Bool, List, [], ◌∷◌, codes, decimal, map, if◌then◌else◌}
use Rattle.std.specs.List.{zip}
use Rattle.std.specs.Option.{option_map_or}
use Rattle.std.specs.Fmt.{signed_decimal}
use Rattle.json.specs.Json.{Json, boolean, number, string, array, object, Members, no_members, member}
use Rattle.json.specs.Value.{items_of}
use Rattle.ipfix_elements.specs.Texts.{cell_text, value_text}
use Rattle.ipfix_elements.specs.Values.{cell_in}
use Rattle.ipfix_elements.specs.declared.cell.Cell.{Cell}
use Rattle.ipfix_elements.specs.declared.cell.Cell.TheVariants.{Number, Ipv4, Ipv6, Mac}
use Rattle.ipfix_elements.specs.JsonValues.{is_exact}
use Rattle.element_registry.specs.Registries.{Known, element_kind, element_name}
use Rattle.element_registry.specs.declared.kind.ElementKind.{ElementKind}
use Rattle.element_registry.specs.declared.kind.ElementKind.TheVariants.{Plain, Boolean, Signed, Micros, Nanos, Text}
use Rattle.element_values.specs.FieldTexts.{misfit_text}
use Rattle.element_values.specs.Instants.{micros_in, nanos_in}
use Rattle.element_values.specs.Numbers.{boolean_in, signed_in}
use Rattle.element_values.specs.Strings.{string_in}
use Rattle.ipfix_message.specs.Fields.{Field}
use Rattle.ipfix_message.specs.DataRecords.{HasOctets}
use Rattle.ipfix_message.specs.declared.record.DataRecord.{DataRecord}
use Rattle.ipfix_dump.specs.JsonLines.{json_line}
use Rattle.flow_export.specs.PlainNames.{PlainElements}
use Rattle.laws_json.specs.Lines.{IsReadAs}

abbrev pub members_of : List (List ℕ × Json) → Members
members_of [] = no_members
members_of (pair ∷ pairs) = member pair.0 pair.1 (members_of pairs)

-- an object with these members, each by its name and value, in this order
abbrev pub object_with : List (List ℕ) → List Json → Json
object_with names values = object (members_of (zip names values))

abbrev pub number_value : ℕ → Json
number_value n = number (decimal n)

-- digits that every reader of JSON holds exactly as a number, and others as a text
abbrev pub value_by : Bool → List ℕ → Json
value_by exact digits = if exact then number digits else string digits

abbrev pub unsigned_value : ℕ → Json
unsigned_value n = value_by (is_exact n) (decimal n)

abbrev pub signed_value : ℤ → Json
signed_value z = value_by (is_exact (unsigned_abs z)) (signed_decimal z)

-- an address is a text
abbrev pub value_of_cell : Cell → Json
value_of_cell (Number n) = unsigned_value n
value_of_cell (Ipv4 address) = string (cell_text (Ipv4 address))
value_of_cell (Ipv6 address) = string (cell_text (Ipv6 address))
value_of_cell (Mac address) = string (cell_text (Mac address))

-- octets by their kind: true or false, a number, or a text, also of what is no value of the kind
abbrev pub value_of : ElementKind → List ℕ → Json
value_of (Plain kind) octets = option_map_or value_of_cell (cell_in kind octets) (string (value_text kind octets))
value_of Boolean octets = option_map_or (λ b. boolean b) (boolean_in octets) (string (misfit_text octets))
value_of (Signed width) octets = option_map_or signed_value (signed_in width octets) (string (misfit_text octets))
value_of Micros octets = option_map_or unsigned_value (micros_in octets) (string (misfit_text octets))
value_of Nanos octets = option_map_or unsigned_value (nanos_in octets) (string (misfit_text octets))
value_of Text octets = option_map_or (λ s. string s) (string_in octets) (string (misfit_text octets))

abbrev pub object_of_field : List Known → Field → Json
object_of_field known f =
    object_with (codes "name" ∷ codes "value" ∷ []) (string (element_name known f.element) ∷ value_of (element_kind known f.element) f.octets ∷ [])

-- what a record says, and the objects of its fields
abbrev pub record_names : List (List ℕ)
record_names = codes "domain" ∷ codes "template" ∷ codes "export_time" ∷ codes "scope" ∷ codes "fields" ∷ []

abbrev pub record_values : List Known → DataRecord → List Json
record_values known r =
    number_value r.domain ∷ number_value r.template ∷ number_value r.export_time ∷ number_value r.scope ∷ array (items_of (map (object_of_field known) r.fields)) ∷ []

abbrev pub object_of : List Known → DataRecord → Json
object_of known r = object_with record_names (record_values known r)

-- numbers that have room in the types of a record: 32 bits, and 16 for a template's id and scope
pub record FitsTypes (r : DataRecord) : Type 0 where
  pub domain : r.domain < 2 ^ 32
  pub template : r.template < 2 ^ 16
  pub export_time : r.export_time < 2 ^ 32
  pub scope : r.scope < 2 ^ 16

-- whatever files say, this holds of each record
abbrev pub ForRecords : (List Known → DataRecord → Type 0) → Type 0
ForRecords P = (files : PlainElements) (r : DataRecord) → HasOctets r → P files.known r

-- the line of each record is read as a value of which P holds
abbrev pub RecordsAreReadAs : (List Known → DataRecord → Json → Type 0) → Type 0
RecordsAreReadAs P = ForRecords (λ known r. FitsTypes r → IsReadAs (json_line known r) (P known r))
