-- The parts of a line that several records share.
use Rattle.std.specs.Prelude.{◌≡◌, ℕ, Bool, List, ◌++◌, codes, Option, Some}
use Rattle.std.specs.List.{flat_map}
use Rattle.ipfix_wire.specs.declared.specifier.ElementId.{ElementId}
use Rattle.ipfix_message.specs.Fields.{Field}
use Rattle.ipfix_message.specs.declared.record.DataRecord.{DataRecord}
use Rattle.element_registry.specs.Registries.{Known, element_kind, element_name}
use Rattle.ipfix_dump.specs.DumpLines.{field_text, labelled}
use Rattle.ipfix_dump.specs.JsonLines.{comma_if, json_field, json_fields}
use Rattle.ipfix_dump.specs.declared.options.Form.{Form}
use Rattle.ipfix_dump.specs.declared.options.Form.TheVariants.{Text, Json}
use Rattle.ipfix_dump.specs.declared.label.Label.{Label}

-- what a line begins with: domain, template, export time and scope field count
abbrev pub front_text : Form → ℕ → ℕ → ℕ → ℕ → List ℕ
front_text Text domain template export_time scope =
    labelled (codes "d=") domain ++ (labelled (codes " t=") template
    ++ (labelled (codes " x=") export_time ++ labelled (codes " s=") scope))
front_text Json domain template export_time scope =
    labelled (codes "{\"domain\":") domain ++ (labelled (codes ",\"template\":") template
    ++ (labelled (codes ",\"export_time\":") export_time ++ (labelled (codes ",\"scope\":") scope ++ codes ",\"fields\":[")))

-- the same of a record
abbrev pub front_of : Form → DataRecord → List ℕ
front_of form r = front_text form r.domain r.template r.export_time r.scope

-- what stands around a name
abbrev pub before_name : Form → List ℕ
before_name Text = codes " "
before_name Json = codes "{\"name\":\""

abbrev pub behind_name : Form → List ℕ
behind_name Text = codes "="
behind_name Json = codes "\",\"value\":"

-- what stands before the value of a field
abbrev pub label_text : Form → List Known → ElementId → List ℕ
label_text form known e = before_name form ++ (element_name known e ++ behind_name form)

-- a label is an element's
abbrev pub IsLabel : Form → List Known → ElementId → Label → Type 0
IsLabel form known e label = (label.kind ≡ element_kind known e) × (label.text.items ≡ label_text form known e)

-- what is kept is the label of the element that it says
abbrev pub IsKept : Form → List Known → Option Label → Type 0
IsKept form known kept = (label : Label) → kept ≡ Some label → IsLabel form known label.element label

-- fields in order; `later` tells whether another one stands before these
abbrev pub fields_text : Form → List Known → Bool → List Field → List ℕ
fields_text Text known later fs = flat_map (field_text known) fs
fields_text Json known later fs = json_fields known later fs

-- one of them
abbrev pub next_field : Form → List Known → Bool → Field → List ℕ
next_field Text known later f = field_text known f
next_field Json known later f = comma_if later ++ json_field known f
