-- The fields of a line, one by one.
use Rattle.std.proofs.Common.{◌≡◌, Bool, true, List, ◌∷◌, ◌++◌, refl, sym, append_assoc}
use Rattle.ipfix_message.specs.Fields.{Field}
use Rattle.element_registry.specs.Registries.{Known}
use Rattle.ipfix_dump.specs.JsonLines.{comma_if, json_field, json_fields}
use Rattle.ipfix_dump.specs.LineParts.{fields_text, next_field}
use Rattle.ipfix_dump.specs.declared.options.Form.{Form}
use Rattle.ipfix_dump.specs.declared.options.Form.TheVariants.{Text, Json}

pub fields_text_cons : (form : Form) (known : List Known) (later : Bool) (f : Field) (fs : List Field)
    → fields_text form known later (f ∷ fs) ≡ next_field form known later f ++ fields_text form known true fs
fields_text_cons Text known later f fs = refl
fields_text_cons Json known later f fs = sym (append_assoc (comma_if later) (json_field known f) (json_fields known true fs))
