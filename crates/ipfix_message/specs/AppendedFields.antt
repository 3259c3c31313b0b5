-- The fields that are appended to a record, in whichever way they are kept.
use Rattle.std.specs.Prelude.{List, [], ◌∷◌, ◌++◌}
use Rattle.std.specs.Arc.{arc_value}
use Rattle.ipfix_message.specs.Fields.{Field}
use Rattle.ipfix_message.specs.declared.appended_fields.NumberField.{NumberField}
use Rattle.ipfix_message.specs.declared.appended_fields.Appended.{Appended}
use Rattle.ipfix_message.specs.declared.appended_fields.Appended.TheVariants.{Nothing, Shared, Number, NumberAfter, Short, Own}

abbrev pub number_field : NumberField → Field
number_field number = record { element = number.element; octets = number.octets }

abbrev pub fields_of : Appended → List Field
fields_of Nothing = []
fields_of (Shared shared) = arc_value shared
fields_of (Number number) = number_field number ∷ []
fields_of (NumberAfter number shared) = arc_value shared ++ number_field number ∷ []
fields_of (Short short) = short.value
fields_of (Own own) = own.value
