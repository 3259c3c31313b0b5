use Rattle.std.proofs.Common.{ap, map, sym, ◌∙◌}
use Rattle.std.specs.Prelude.{option_map}
use Rattle.std.specs.Str.{bytes_eq}
use Rattle.element_registry.specs.Registries.{is_named, shown}
use Rattle.element_registry.proofs.Noted.{looked_up, none_standing, noted_so, other_standing, standing_found}
use Rattle.element_registry.proofs.entry.find_named.Goals as goal

pub returns-in_err-entry : goal.returns-in_err-entry
returns-in_err-entry c =
    let known = map shown c.args.entries.now in
    let all = looked_up (is_named c.args.name.now) known _ _ c.get.ensures.value (noted_so c.args.places.now known c.args.name.now c.requires) in
    c.from_residual.ensures
    ∙ sym (ap (option_map (λ k. k.element)) (none_standing (is_named c.args.name.now) known _ all (sym c.entry_at.ensures ∙ ap (option_map (λ k. shown k.now)) c.in_err-entry.was)))

pub returns-then-eq : goal.returns-then-eq
returns-then-eq c =
    let known = map shown c.args.entries.now in
    let all = looked_up (is_named c.args.name.now) known _ _ c.get.ensures.value (noted_so c.args.places.now known c.args.name.now c.requires) in
    let same = ap (λ t. bytes_eq t c.args.name.now) (sym c.as_str.ensures.value) ∙ sym c.eq.ensures ∙ c.if-eq.true in
    sym (ap (option_map (λ k. k.element)) (standing_found (is_named c.args.name.now) known _ (shown c.in_ok-entry.entry.now) all (sym c.entry_at.ensures ∙ ap (option_map (λ k. shown k.now)) c.in_ok-entry.was) same))

pub returns-else-eq : goal.returns-else-eq
returns-else-eq c =
    let known = map shown c.args.entries.now in
    let all = looked_up (is_named c.args.name.now) known _ _ c.get.ensures.value (noted_so c.args.places.now known c.args.name.now c.requires) in
    let other = ap (λ t. bytes_eq t c.args.name.now) (sym c.as_str.ensures.value) ∙ sym c.eq.ensures ∙ c.if-eq.false in
    sym (ap (option_map (λ k. k.element)) (other_standing (is_named c.args.name.now) known _ (shown c.in_ok-entry.entry.now) all (sym c.entry_at.ensures ∙ ap (option_map (λ k. shown k.now)) c.in_ok-entry.was) other))
