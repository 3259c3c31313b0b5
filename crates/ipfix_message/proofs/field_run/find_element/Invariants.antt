use Rattle.std.proofs.Common.{◌≡◌}
use Rattle.ipfix_message.specs.Fields.{octets_of}
use Rattle.ipfix_message.proofs.field_run.find_element.Given as goal

abbrev pub invariant-loop-field : goal.invariant-loop-field
invariant-loop-field l =
    (goal.iterator-loop-field).can_next l.field-iterator
    × (goal.iterator-loop-field).is_finite l.field-iterator
    × (octets_of l.element l.fn.fields ≡ octets_of l.element l.field-iterator)
