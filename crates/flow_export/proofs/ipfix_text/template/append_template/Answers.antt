use Rattle.std.proofs.Common.{length, sym, ap, subst, refl, All, List, arith}
use Rattle.std.proofs.lemmas.List.{length-append}
use Rattle.ipfix_wire.specs.declared.specifier.ElementId.{ElementId}
use Rattle.flow_table.specs.declared.key.Key.{Key}
use Rattle.flow_table.specs.Plans.{exported_element}
use Rattle.flow_export.specs.Fitting.{HasNumber}
use Rattle.flow_export.specs.IpfixText.{template, template_octets}
use Rattle.flow_export.proofs.Lengths.{length-template}
use Rattle.flow_export.proofs.PlanFacts.{counter_numbers, has_room, key_numbers}
use Rattle.flow_export.proofs.TemplateParts.{template_appended}
use Rattle.flow_export.proofs.ipfix_text.template.append_template.Goals as goal

pub append_key_specs-requires-clause-numbers : goal.append_key_specs-requires-clause-numbers
append_key_specs-requires-clause-numbers c =
    subst (λ (keys : List Key). All (λ key. HasNumber (exported_element key)) keys) (sym c.keys-keys.ensures.value) (key_numbers c.args.plan.now c.counters-counters.ensures.sound)

pub append_counter_specs-requires : goal.append_counter_specs-requires
append_counter_specs-requires c =
    subst (λ (counters : List ElementId). All HasNumber counters) (sym c.counters-counters.ensures.value) (counter_numbers c.args.plan.now c.counters-counters.ensures.sound)

pub returns-clause-octets : goal.returns-clause-octets
returns-clause-octets c =
    template_appended c.args.plan.now _ c.keys-keys.result.now c.kinds.result.now c.counters-counters.result.now c.iana.result c.iana-2.result c.iana-3.result _ _ _ _ _ _ _
    c.counters-counters.ensures.sound.beside refl c.keys-keys.ensures.value c.kinds.ensures.value c.counters-counters.ensures.value c.iana.ensures c.iana-2.ensures c.iana-3.ensures
    c.in_ok-append_ids.ensures c.in_ok-append_number_spec.ensures c.in_ok-append_number_spec-2.ensures c.in_ok-append_key_specs.ensures c.in_ok-append_counter_specs.ensures c.in_ok-append_number_spec-3.ensures

pub returns-clause-short : goal.returns-clause-short
returns-clause-short c =
    let plan = c.args.plan.now in
    let octets = returns-clause-octets c in
    omega (arith, ap length octets, length-append c.args.out.now.items (template_octets (template plan)), length-template plan (has_room plan c.counters-counters.ensures.sound))
