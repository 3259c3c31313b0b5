-- The text of a data record, as `dump` writes it: one line a record.
use Rattle.std.specs.Prelude.{◌≡◌, ℕ, true, List, [], ◌++◌, is_some, codes, decimal}
use Rattle.std.specs.List.{flat_map}
use Rattle.ipfix_elements.specs.Elements.{entry_of}
use Rattle.ipfix_message.specs.Fields.{Field}
use Rattle.ipfix_message.specs.declared.record.DataRecord.{DataRecord}
use Rattle.element_registry.specs.Registries.{Known, element_kind, element_name}
use Rattle.element_values.specs.FieldTexts.{element_text}

-- a space and a field: its element's name, and its value by the element's kind
abbrev pub field_text : List Known → Field → List ℕ
field_text known f = codes " " ++ (element_name known f.element ++ (codes "=" ++ element_text (element_kind known f.element) f.octets))

-- the text of a field of a built-in element is the same whatever files say
abbrev pub IsSameIfBuiltIn : (List Known → Field → List ℕ) → Type 0
IsSameIfBuiltIn text = (known : List Known) (f : Field) → is_some (entry_of f.element) ≡ true → text known f ≡ text [] f

-- a label and a number
abbrev pub labelled : List ℕ → ℕ → List ℕ
labelled label n = label ++ decimal n

-- domain, template, export time and scope field count, then the fields in order
unfoldable pub dump_line : List Known → DataRecord → List ℕ
dump_line known r =
    labelled (codes "d=") r.domain ++ (labelled (codes " t=") r.template ++ (labelled (codes " x=") r.export_time ++ (labelled (codes " s=") r.scope
    ++ (flat_map (field_text known) r.fields ++ codes "\n"))))
