-- The records of a data set, which share its body (RFC 7011, section 3.4.3).
use Rattle.std.specs.Prelude.{ℕ, ◌≤◌, List, length, drop, All}
use Rattle.std.specs.Arc.{arc_value}
use Rattle.ipfix_wire.specs.declared.specifier.Spec.{Spec}
use Rattle.ipfix_message.specs.declared.set_body.SetBody.{SetBody}
use Rattle.ipfix_message.specs.Fields.{Field}
use Rattle.ipfix_message.specs.SpelledFields.{BeginsWithFields, IsShort, fields_in}

abbrev pub specs_of : SetBody → List Spec
specs_of set = (arc_value set.template).specs

-- the fields of the record that begins at an octet of the body
abbrev pub fields_from : SetBody → ℕ → List Field
fields_from set start = fields_in (specs_of set) (drop start set.octets.items)

-- a record begins at that octet
pub record HasRecordAt (set : SetBody) (start : ℕ) : Type 0 where
  pub inside : start ≤ length set.octets.items
  pub begins : BeginsWithFields (specs_of set) (drop start set.octets.items)
  pub short : All IsShort (fields_from set start)
