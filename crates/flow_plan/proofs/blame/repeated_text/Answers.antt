use Rattle.std.proofs.Common.{◌≡◌, ◌+◌, ◌<◌, length, arith, refl, sym, ◌∙◌}
use Rattle.std.proofs.lemmas.Bool.{le-ltb}
use Rattle.std.proofs.lemmas.Option.{same_Some}
use Rattle.element_registry.specs.Registries.{element_by_name}
use Rattle.flow_plan.specs.PlanTexts.{key_named}
use Rattle.flow_plan.specs.Shown.{shown}
use Rattle.flow_plan.proofs.Again.{found_again}
use Rattle.flow_plan.proofs.Blaming.{counter_again, named_length}
use Rattle.flow_plan.proofs.blame.repeated_text.Goals as goal

pub unwrap-index-requires : goal.unwrap-index-requires
unwrap-index-requires c =
    let found = found_again c.args.keys.now c.args.counters.now c.requires.values c.requires.repeated in
    rw (c.in_ok-first_repeat.ensures ∙ found.1) refl

pub text_at-requires : goal.text_at-requires
text_at-requires c =
    let each : length c.args.keys.now ≡ length c.args.fields.now.keys.items = named_length (key_named c.args.elements.now) c.args.fields.now.keys.items c.args.keys.now c.requires.named.0 in
    rw c.deref.ensures.value (omega (arith, c.if-index-keys.true))

pub text_at-requires-else-index-keys : goal.text_at-requires-else-index-keys
text_at-requires-else-index-keys c =
    let found = found_again c.args.keys.now c.args.counters.now c.requires.values c.requires.repeated in
    let same : found.0 ≡ c.unwrap-index.result = same_Some found.0 c.unwrap-index.result (sym (c.in_ok-first_repeat.ensures ∙ found.1) ∙ c.unwrap-index.ensures) in
    let below : found.0 < length c.args.keys.now + length c.args.counters.now = found.2 in
    let each : length c.args.counters.now ≡ length c.args.fields.now.counters.items = named_length (element_by_name c.args.elements.now) c.args.fields.now.counters.items c.args.counters.now c.requires.named.1 in
    rw c.deref-else-index-keys.ensures.value (omega (arith, c.if-index-keys.false))

pub returns-else-index-keys : goal.returns-else-index-keys
returns-else-index-keys c =
    let texts = rw c.deref-else-index-keys.ensures.value at c.text_at-else-index-keys.ensures in
    counter_again c.args.elements.now (shown c.args.fields.now) c.args.keys.now c.args.counters.now c.unwrap-index.result c.text_at-else-index-keys.result c.requires.named
    (sym c.in_ok-first_repeat.ensures ∙ c.unwrap-index.ensures) (le-ltb c.unwrap-index.result (length c.args.keys.now) (omega (arith, c.if-index-keys.false))) texts
