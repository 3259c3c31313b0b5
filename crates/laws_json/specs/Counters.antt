-- A counter of a plan in a dump and in a table.
use Rattle.std.specs.Prelude.{◌≡◌, ℕ, ◌==◌, Bool, List, decimal, Option, Some, is_none}
use Rattle.std.specs.List.{list_any}
use Rattle.std.specs.Option.{option_map_or}
use Rattle.ipfix_wire.specs.declared.specifier.ElementId.{ElementId}
use Rattle.ipfix_elements.specs.JsonValues.{in_quotes, json_number}
use Rattle.element_registry.specs.Registries.{Known, element_kind}
use Rattle.element_values.specs.FieldTexts.{element_json, element_text, misfit_text}
use Rattle.ipfix_message.specs.Fields.{octets_of}
use Rattle.ipfix_message.specs.declared.record.DataRecord.{DataRecord}
use Rattle.flow_table.specs.Reading.{number_of}

-- whether there is a question mark in a text
abbrev pub has_mark : List ℕ → Bool
has_mark text = list_any (λ octet. octet == 63) text

-- a dump writes of these octets the number that a table counts; or their text after a question mark, exactly if they count
-- as absent
pub record SaysWhatCounts (known : List Known) (e : ElementId) (counted : Option ℕ) (octets : List ℕ) : Type 0 where
  pub text : element_text (element_kind known e) octets ≡ option_map_or decimal counted (misfit_text octets)
  pub json : element_json (element_kind known e) octets ≡ option_map_or json_number counted (in_quotes (misfit_text octets))
  pub absent : has_mark (element_text (element_kind known e) octets) ≡ is_none counted

-- so it is of the field that a table reads of each record
abbrev pub IsReadAlike : List Known → ElementId → Type 0
IsReadAlike known e = (r : DataRecord) (octets : List ℕ) → octets_of e r.fields ≡ Some octets → SaysWhatCounts known e (number_of e r) octets
