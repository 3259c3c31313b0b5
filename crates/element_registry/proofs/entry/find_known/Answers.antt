use Rattle.std.proofs.Common.{ap, map, sym, ◌∙◌}
use Rattle.std.specs.Prelude.{option_map}
use Rattle.element_registry.specs.Registries.{is_of, shown}
use Rattle.element_registry.proofs.Noted.{looked_up, none_standing, noted_of, other_standing, standing_found}
use Rattle.element_registry.proofs.entry.find_known.Goals as goal

pub returns-in_err-entry : goal.returns-in_err-entry
returns-in_err-entry c =
    let known = map shown c.args.entries.now in
    let all = looked_up (is_of c.args.element) known _ _ c.get-place.ensures.value (noted_of c.args.places.now known c.args.element c.requires) in
    ap (option_map (λ k. shown k.now)) c.from_residual.ensures
    ∙ sym (none_standing (is_of c.args.element) known _ all (sym c.entry_at.ensures ∙ ap (option_map (λ k. shown k.now)) c.in_err-entry.was))

pub returns-then-eq : goal.returns-then-eq
returns-then-eq c =
    let known = map shown c.args.entries.now in
    let all = looked_up (is_of c.args.element) known _ _ c.get-place.ensures.value (noted_of c.args.places.now known c.args.element c.requires) in
    sym (standing_found (is_of c.args.element) known _ (shown c.in_ok-entry.entry.now) all (sym c.entry_at.ensures ∙ ap (option_map (λ k. shown k.now)) c.in_ok-entry.was) (sym c.eq.ensures ∙ c.if-eq.true))

pub returns-else-eq : goal.returns-else-eq
returns-else-eq c =
    let known = map shown c.args.entries.now in
    let all = looked_up (is_of c.args.element) known _ _ c.get-place.ensures.value (noted_of c.args.places.now known c.args.element c.requires) in
    sym (other_standing (is_of c.args.element) known _ (shown c.in_ok-entry.entry.now) all (sym c.entry_at.ensures ∙ ap (option_map (λ k. shown k.now)) c.in_ok-entry.was) (sym c.eq.ensures ∙ c.if-eq.false))
