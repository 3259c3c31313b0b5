use Rattle.std.proofs.Common.{◌∙◌, refl}
use Rattle.element_registry.specs.Registries.{element_by_name}
use Rattle.flow_plan.specs.PlanTexts.{key_named}
use Rattle.flow_plan.proofs.Blaming.{counter_found, key_found, prefix_found, values_counted, within}
use Rattle.flow_plan.proofs.blame.place_of.Goals as goal

pub unwrap-index-requires : goal.unwrap-index-requires
unwrap-index-requires c =
    let found = key_found c.args.elements.now c.args.fields.now.choices c.args.fields.now.length c.args.keys.now c.args.counters.now c.args.fields.now.max_spread c.args.fault c.in-KeyKind.is c.requires.first in
    rw (c.unfit_key.ensures ∙ found.1) refl

pub text_at-requires : goal.text_at-requires
text_at-requires c =
    let found = key_found c.args.elements.now c.args.fields.now.choices c.args.fields.now.length c.args.keys.now c.args.counters.now c.args.fields.now.max_spread c.args.fault c.in-KeyKind.is c.requires.first in
    rw c.deref.ensures.value (within (key_named c.args.elements.now) c.args.fields.now.keys.items c.args.keys.now _ c.unfit_key.result c.unwrap-index.result c.requires.named.0 c.unfit_key.ensures found c.unwrap-index.ensures)

pub unwrap-index-requires-in-Prefix : goal.unwrap-index-requires-in-Prefix
unwrap-index-requires-in-Prefix c =
    let found = prefix_found c.args.elements.now c.args.fields.now.choices c.args.fields.now.length c.args.keys.now c.args.counters.now c.args.fields.now.max_spread c.args.fault c.in-Prefix.is c.requires.first in
    rw (c.unfit_prefix.ensures ∙ found.1) refl

pub text_at-requires-in-Prefix : goal.text_at-requires-in-Prefix
text_at-requires-in-Prefix c =
    let found = prefix_found c.args.elements.now c.args.fields.now.choices c.args.fields.now.length c.args.keys.now c.args.counters.now c.args.fields.now.max_spread c.args.fault c.in-Prefix.is c.requires.first in
    rw c.deref-in-Prefix.ensures.value (within (key_named c.args.elements.now) c.args.fields.now.keys.items c.args.keys.now _ c.unfit_prefix.result c.unwrap-index-in-Prefix.result c.requires.named.0 c.unfit_prefix.ensures found c.unwrap-index-in-Prefix.ensures)

pub unwrap-index-requires-in-CounterKind : goal.unwrap-index-requires-in-CounterKind
unwrap-index-requires-in-CounterKind c =
    let found = counter_found c.args.elements.now c.args.fields.now.choices c.args.fields.now.length c.args.keys.now c.args.counters.now c.args.fields.now.max_spread c.args.fault c.in-CounterKind.is c.requires.first in
    rw (c.unfit_counter.ensures ∙ found.1) refl

pub text_at-requires-in-CounterKind : goal.text_at-requires-in-CounterKind
text_at-requires-in-CounterKind c =
    let found = counter_found c.args.elements.now c.args.fields.now.choices c.args.fields.now.length c.args.keys.now c.args.counters.now c.args.fields.now.max_spread c.args.fault c.in-CounterKind.is c.requires.first in
    rw c.deref-in-CounterKind.ensures.value (within (element_by_name c.args.elements.now) c.args.fields.now.counters.items c.args.counters.now _ c.unfit_counter.result c.unwrap-index-in-CounterKind.result c.requires.named.1 c.unfit_counter.ensures found c.unwrap-index-in-CounterKind.ensures)

pub repeated_text-requires-clause-values : goal.repeated_text-requires-clause-values
repeated_text-requires-clause-values c =
    values_counted c.args.elements.now c.args.fields.now.choices c.args.fields.now.length c.args.keys.now c.args.counters.now c.args.fields.now.max_spread c.args.fault c.in-Repeated.is c.requires.first
