use Rattle.std.proofs.Common.{◌≡◌, false, ◌++◌}
use Rattle.ipfix_dump.specs.LineParts.{fields_text}
use Rattle.ipfix_dump.proofs.line.append_fields.Given as goal

abbrev pub invariant-loop-field : goal.invariant-loop-field
invariant-loop-field l = record {
  text : l.out ++ fields_text l.fn.labels.form l.fn.labels.elements.now l.later l.field-iterator
      ≡ l.fn.out ++ fields_text l.fn.labels.form l.fn.labels.elements.now false l.fields;
  elements : l.labels.elements.now ≡ l.fn.labels.elements.now;
  form : l.labels.form ≡ l.fn.labels.form;
}
