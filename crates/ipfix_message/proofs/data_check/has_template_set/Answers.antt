use Rattle.std.proofs.Common.{◌≡◌, true, false, length, refl, sym, ◌∙◌, rules}
use Rattle.ipfix_message.specs.Sets.{Set, is_template_set, has_template_set}
use Rattle.ipfix_message.proofs.DataChecks.{template_set_cut, template_set_next, template_set_none}
use Rattle.ipfix_message.proofs.data_check.has_template_set.Goals as goal

pub returns-in_default : goal.returns-in_default
returns-in_default c = sym (sym c.loop-rest.invariant ∙ template_set_cut c.loop-rest.rest.now c.in_default.field-0 (λ lack. c.in_default.ensures.memory cc) c.in_default.ensures.exact)

pub returns-then-is_template_set : goal.returns-then-is_template_set
returns-then-is_template_set c =
    let set : Set = record { id = c.in-Ok.id; body = c.in-Ok.field-0-0-1.now } in
    let was : c.is_template_set.result ≡ true = search rules in
    let is : is_template_set set ≡ true = sym (c.is_template_set.ensures c.in-Ok.field-0-0-1.now) ∙ was in
    let here : has_template_set c.loop-rest.rest.now ≡ true = template_set_next c.loop-rest.rest.now set c.in-Ok.after.now c.in-Ok.ensures.exact ∙ rw is refl in
    sym (sym c.loop-rest.invariant ∙ here)

pub loop-rest-preserved : goal.loop-rest-preserved
loop-rest-preserved c =
    let set : Set = record { id = c.in-Ok.id; body = c.in-Ok.field-0-0-1.now } in
    let was : c.is_template_set.result ≡ false = search rules in
    let is_none : is_template_set set ≡ false = sym (c.is_template_set.ensures c.in-Ok.field-0-0-1.now) ∙ was in
    sym (template_set_next c.loop-rest.rest.now set c.in-Ok.after.now c.in-Ok.ensures.exact ∙ rw is_none refl) ∙ c.loop-rest.invariant

pub returns : goal.returns
returns c =
    let none : length c.loop-rest.rest.now ≡ 0 = search rules in
    sym (sym c.loop-rest.invariant ∙ template_set_none c.loop-rest.rest.now none)
