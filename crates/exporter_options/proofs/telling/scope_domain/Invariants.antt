use Rattle.std.proofs.Common.{◌≡◌, take, find}
use Rattle.ipfix_elements.specs.Elements.{iana}
use Rattle.ipfix_message.specs.Fields.{same_element}
use Rattle.exporter_options.proofs.telling.scope_domain.Given as goal

-- the first field of the element among those that are left is the first among all
abbrev pub invariant-loop-field : goal.invariant-loop-field
invariant-loop-field l =
    find (λ f. same_element f.element (iana 149)) (take l.left l.field-iterator) ≡ find (λ f. same_element f.element (iana 149)) (take l.scope l.fields)
