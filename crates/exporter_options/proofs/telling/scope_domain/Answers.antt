use Rattle.std.proofs.Common.{◌≡◌, true, false, option_and_then, option_map, sym, ap, ◌∙◌}
use Rattle.ipfix_elements.specs.Elements.{iana}
use Rattle.ipfix_elements.specs.Values.{number_in}
use Rattle.ipfix_elements.specs.declared.kind.Kind.TheVariants.{Unsigned}
use Rattle.ipfix_elements.specs.declared.kind.Width.TheVariants.{Four}
use Rattle.ipfix_message.specs.Fields.{Field, same_element}
use Rattle.ipfix_message.specs.FieldViews.{field_of}
use Rattle.exporter_options.proofs.Numbers.{search_on, search_ends}
use Rattle.exporter_options.proofs.telling.scope_domain.Goals as goal

pub returns-then-eq : goal.returns-then-eq
returns-then-eq c =
    let passes : same_element c.in-Some.field.element (iana 149) ≡ true =
    ap (λ e. same_element c.in-Some.field.element e) (sym c.iana.ensures) ∙ sym c.eq.ensures ∙ c.if-eq.true in
    let ends = search_ends (λ (f : Field). same_element f.element (iana 149)) c.loop-field.left (field_of c.in-Some.field) c.loop-field.field-iterator c.next.new.self c.in-Some.ensures.steps c.if-left-eq0.false passes in
    c.read_unsigned.ensures ∙ sym (ap (λ found. option_and_then (number_in (Unsigned Four)) (option_map (λ (f : Field). f.octets) found)) (sym c.loop-field.invariant ∙ ends))

pub loop-field-preserved : goal.loop-field-preserved
loop-field-preserved c =
    let fails : same_element c.in-Some.field.element (iana 149) ≡ false =
    ap (λ e. same_element c.in-Some.field.element e) (sym c.iana.ensures) ∙ sym c.eq.ensures ∙ c.if-eq.false in
    search_on (λ (f : Field). same_element f.element (iana 149)) c.loop-field.left (field_of c.in-Some.field) c.loop-field.field-iterator c.next.new.self c.in-Some.ensures.steps c.if-left-eq0.false fails
    ∙ c.loop-field.invariant
