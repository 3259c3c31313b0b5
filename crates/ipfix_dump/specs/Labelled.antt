-- What is written by labels.
use Rattle.std.specs.Prelude.{ℕ, Bool, List}
use Rattle.ipfix_wire.specs.declared.specifier.ElementId.{ElementId}
use Rattle.ipfix_message.specs.Fields.{Field}
use Rattle.ipfix_dump.specs.LineParts.{fields_text, label_text, next_field}
use Rattle.ipfix_dump.specs.declared.labels.Labels.{Labels}

-- what stands before the value of an element
abbrev pub label_by : Labels → ElementId → List ℕ
label_by labels e = label_text labels.form labels.elements.now e

-- fields in order; `later` tells whether another one stands before these
abbrev pub fields_by : Labels → Bool → List Field → List ℕ
fields_by labels later fs = fields_text labels.form labels.elements.now later fs

-- one of them
abbrev pub field_by : Labels → Bool → Field → List ℕ
field_by labels later f = next_field labels.form labels.elements.now later f
