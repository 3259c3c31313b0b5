use Rattle.std.proofs.Common.{◌≡◌, true, ap, sym, ◌∙◌, Some, rules}
use Rattle.std.specs.Ordering.{nat_cmp}
use Rattle.std.specs.BTreeMap.{get}
use Rattle.ipfix_message.specs.declared.record.Template.{Template}
use Rattle.ipfix_message.specs.TemplatesInForce.{same_template}
use Rattle.ipfix_message.proofs.Same.{same_template-Decides, unchanged}
use Rattle.ipfix_message.proofs.in_force.define.Goals as goal

pub returns-then-is_same-clause-ok : goal.returns-then-is_same-clause-ok
returns-then-is_same-clause-ok c =
    let found : get nat_cmp c.args.templates.now c.args.new.id ≡ Some c.in-Some.known.now = search rules in
    let passes : same_template c.args.new c.in-Some.known.now ≡ true = sym c.is_same.ensures ∙ c.if-is_same.true in
    let same : c.args.new ≡ c.in-Some.known.now = (same_template-Decides c.args.new c.in-Some.known.now).0 passes in
    unchanged (get nat_cmp c.args.templates.now) c.args.new (found ∙ ap (λ (t : Template). Some t) (sym same))
