-- The texts of fields, by the kinds that files name.
use Rattle.std.specs.Prelude.{ℕ, ℤ, Bool, true, false, List, ◌++◌, codes, if◌then◌else◌, unsigned_abs}
use Rattle.std.specs.Option.{option_map_or}
use Rattle.std.specs.Fmt.{decimal, signed_decimal}
use Rattle.ipfix_elements.specs.declared.kind.Kind.TheVariants as kinds
use Rattle.ipfix_elements.specs.Texts.{value_text}
use Rattle.ipfix_elements.specs.JsonValues.{in_quotes, is_exact, json_number, json_value}
use Rattle.element_registry.specs.declared.kind.ElementKind.{ElementKind}
use Rattle.element_registry.specs.declared.kind.ElementKind.TheVariants.{Plain, Boolean, Signed, Micros, Nanos, Text}
use Rattle.element_values.specs.Numbers.{boolean_in, signed_in}
use Rattle.element_values.specs.Instants.{micros_in, nanos_in}
use Rattle.element_values.specs.Strings.{string_in, quoted_text, json_string}

-- octets that are no value of their kind
abbrev pub misfit_text : List ℕ → List ℕ
misfit_text octets = codes "?" ++ value_text kinds.Octets octets

abbrev pub boolean_text : Bool → List ℕ
boolean_text true = codes "true"
boolean_text false = codes "false"

-- as a dump's lines of text have it: an element that is built in as ever
abbrev pub element_text : ElementKind → List ℕ → List ℕ
element_text (Plain kind) octets = value_text kind octets
element_text Boolean octets = option_map_or boolean_text (boolean_in octets) (misfit_text octets)
element_text (Signed width) octets = option_map_or signed_decimal (signed_in width octets) (misfit_text octets)
element_text Micros octets = option_map_or decimal (micros_in octets) (misfit_text octets)
element_text Nanos octets = option_map_or decimal (nanos_in octets) (misfit_text octets)
element_text Text octets = option_map_or quoted_text (string_in octets) (misfit_text octets)

-- the digits of a number that every reader of JSON holds exactly (RFC 7493, section 2.2) as they are, and else between
-- quotation marks
abbrev pub digits_by : Bool → List ℕ → List ℕ
digits_by exact digits = if exact then digits else in_quotes digits

abbrev pub json_signed : ℤ → List ℕ
json_signed n = digits_by (is_exact (unsigned_abs n)) (signed_decimal n)

-- as a value of JSON
abbrev pub element_json : ElementKind → List ℕ → List ℕ
element_json (Plain kind) octets = json_value kind octets
element_json Boolean octets = option_map_or boolean_text (boolean_in octets) (in_quotes (misfit_text octets))
element_json (Signed width) octets = option_map_or json_signed (signed_in width octets) (in_quotes (misfit_text octets))
element_json Micros octets = option_map_or json_number (micros_in octets) (in_quotes (misfit_text octets))
element_json Nanos octets = option_map_or json_number (nanos_in octets) (in_quotes (misfit_text octets))
element_json Text octets = option_map_or json_string (string_in octets) (in_quotes (misfit_text octets))
