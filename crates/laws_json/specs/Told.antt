-- What the members of a value of JSON tell, looked up by their names.
use Rattle.std.specs.Prelude.{◌≡◌, ℕ, ℤ, pos, negsuc, suc, List, ◌++◌, codes, Option, Some, None}
use Rattle.std.specs.List.{AllZip}
use Rattle.std.specs.Str.Parse.{IsNumeral, digits_value}
use Rattle.json.specs.Find.{get}
use Rattle.json.specs.Json.{Json, null, boolean, number, string, array, object}
use Rattle.json.specs.Value.{items_of}
use Rattle.ipfix_elements.specs.Texts.{cell_text, value_text}
use Rattle.ipfix_elements.specs.Values.{cell_in}
use Rattle.ipfix_elements.specs.declared.cell.Cell.{Cell}
use Rattle.ipfix_elements.specs.declared.cell.Cell.TheVariants.{Number, Ipv4, Ipv6, Mac}
use Rattle.element_registry.specs.Registries.{Known, element_kind, element_name}
use Rattle.element_registry.specs.declared.kind.ElementKind.{ElementKind}
use Rattle.element_registry.specs.declared.kind.ElementKind.TheVariants.{Plain, Boolean, Signed, Micros, Nanos, Text}
use Rattle.element_values.specs.FieldTexts.{misfit_text}
use Rattle.element_values.specs.Instants.{micros_in, nanos_in}
use Rattle.element_values.specs.Numbers.{boolean_in, signed_in}
use Rattle.element_values.specs.Strings.{string_in}
use Rattle.ipfix_message.specs.Fields.{Field}
use Rattle.ipfix_message.specs.declared.record.DataRecord.{DataRecord}
use Rattle.flow_table.specs.Plans.{PlanValue}
use Rattle.flow_table.specs.SameTables.{RowValue}
use Rattle.flow_export.specs.CsvText.{heading}
use Rattle.laws_json.specs.RowObjects.{columns}

-- a value has a member of the name, and P holds of what stands there
abbrev pub HasMember : List ℕ → (Json → Type 0) → Json → Type 0
HasMember name P value = (found : Json) × (get name value ≡ Some found) × P found

-- digits and nothing else, which are the number in decimal
abbrev pub IsDecimalOf : ℕ → List ℕ → Type 0
IsDecimalOf n digits = IsNumeral 10 digits × (digits_value 10 digits ≡ n)

-- these, and a minus before them if the number is below 0
abbrev pub SpellsNumber : ℤ → List ℕ → Type 0
SpellsNumber (pos n) text = IsDecimalOf n text
SpellsNumber (negsuc n) text = (digits : List ℕ) × (text ≡ codes "-" ++ digits) × IsDecimalOf (suc n) digits

-- a value is the number, or a text that spells it
abbrev pub TellsNumber : ℤ → Json → Type 0
TellsNumber z null = ⊥
TellsNumber z (boolean _) = ⊥
TellsNumber z (number text) = SpellsNumber z text
TellsNumber z (string text) = SpellsNumber z text
TellsNumber z (array _) = ⊥
TellsNumber z (object _) = ⊥

-- a value tells a cell: a number, or an address by its text
abbrev pub TellsCell : Cell → Json → Type 0
TellsCell (Number n) value = TellsNumber (pos n) value
TellsCell (Ipv4 address) value = value ≡ string (cell_text (Ipv4 address))
TellsCell (Ipv6 address) value = value ≡ string (cell_text (Ipv6 address))
TellsCell (Mac address) value = value ≡ string (cell_text (Mac address))

-- what octets are, or their text if they are no value of their kind
abbrev pub TellsOr : {X : Type 0} → (X → Json → Type 0) → Option X → List ℕ → Json → Type 0
TellsOr tells (Some x) other value = tells x value
TellsOr tells None other value = value ≡ string other

-- octets by their kind
abbrev pub TellsValue : ElementKind → List ℕ → Json → Type 0
TellsValue (Plain kind) octets = TellsOr TellsCell (cell_in kind octets) (value_text kind octets)
TellsValue Boolean octets = TellsOr (λ b value. value ≡ boolean b) (boolean_in octets) (misfit_text octets)
TellsValue (Signed width) octets = TellsOr TellsNumber (signed_in width octets) (misfit_text octets)
TellsValue Micros octets = TellsOr (λ n. TellsNumber (pos n)) (micros_in octets) (misfit_text octets)
TellsValue Nanos octets = TellsOr (λ n. TellsNumber (pos n)) (nanos_in octets) (misfit_text octets)
TellsValue Text octets = TellsOr (λ s value. value ≡ string s) (string_in octets) (misfit_text octets)

-- the name of a field's element, and its value by the element's kind
pub record TellsField (known : List Known) (f : Field) (value : Json) : Type 0 where
  pub name : HasMember (codes "name") (λ found. found ≡ string (element_name known f.element)) value
  pub octets : HasMember (codes "value") (TellsValue (element_kind known f.element) f.octets) value

-- an array with a value for each field, in their order
abbrev pub TellsFields : List Known → List Field → Json → Type 0
TellsFields known fields value = (found : List Json) × (value ≡ array (items_of found)) × AllZip (TellsField known) fields found

pub record TellsRecord (known : List Known) (r : DataRecord) (value : Json) : Type 0 where
  pub domain : HasMember (codes "domain") (TellsNumber (pos r.domain)) value
  pub template : HasMember (codes "template") (TellsNumber (pos r.template)) value
  pub export_time : HasMember (codes "export_time") (TellsNumber (pos r.export_time)) value
  pub scope : HasMember (codes "scope") (TellsNumber (pos r.scope)) value
  pub fields : HasMember (codes "fields") (TellsFields known r.fields) value

-- under each name of the heading a value tells the row's column
abbrev pub TellsRow : List Known → PlanValue → RowValue → Json → Type 0
TellsRow known plan row value = AllZip (λ name cell. HasMember name (TellsCell cell) value) (heading known plan) (columns plan row)
