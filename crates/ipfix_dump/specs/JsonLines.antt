-- The text of a data record as an object of JSON (RFC 8259), as `dump --format json` writes it: one line a record.
use Rattle.std.specs.Prelude.{ℕ, Bool, true, false, List, [], ◌∷◌, ◌++◌, codes}
use Rattle.ipfix_message.specs.Fields.{Field}
use Rattle.ipfix_message.specs.declared.record.DataRecord.{DataRecord}
use Rattle.element_registry.specs.Registries.{Known, element_kind, element_name}
use Rattle.element_values.specs.FieldTexts.{element_json}
use Rattle.ipfix_dump.specs.DumpLines.{labelled}

-- a field: its element's name, and its value by the element's kind
unfoldable pub json_field : List Known → Field → List ℕ
json_field known f =
    codes "{\"name\":\"" ++ (element_name known f.element ++ (codes "\",\"value\":" ++ (element_json (element_kind known f.element) f.octets ++ codes "}")))

abbrev pub comma_if : Bool → List ℕ
comma_if true = codes ","
comma_if false = []

-- fields in order, with a comma between two; `later` tells whether another one stands before these
abbrev pub json_fields : List Known → Bool → List Field → List ℕ
json_fields known later [] = []
json_fields known later (f ∷ fs) = comma_if later ++ (json_field known f ++ json_fields known true fs)

-- domain, template, export time and scope field count, up to the fields
abbrev pub json_front : DataRecord → List ℕ
json_front r =
    labelled (codes "{\"domain\":") r.domain ++ (labelled (codes ",\"template\":") r.template
    ++ (labelled (codes ",\"export_time\":") r.export_time ++ (labelled (codes ",\"scope\":") r.scope ++ codes ",\"fields\":[")))

-- these, and the fields
unfoldable pub json_line : List Known → DataRecord → List ℕ
json_line known r = json_front r ++ (json_fields known false r.fields ++ codes "]}\n")
