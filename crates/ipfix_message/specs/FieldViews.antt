-- What contracts see of a field that is lent.
use Rattle.std.specs.Prelude.{List, [], ◌∷◌, Option, Some, None}
use Rattle.ipfix_message.specs.declared.field_iter.FieldRef.{FieldRef}
use Rattle.ipfix_message.specs.Fields.{Field}

abbrev pub field_of : FieldRef → Field
field_of f = record { element = f.element; octets = f.octets.now }

-- a last field, if there is one
abbrev pub last_field : Option FieldRef → List Field
last_field None = []
last_field (Some f) = field_of f ∷ []
