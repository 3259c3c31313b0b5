use Rattle.std.proofs.Common.{◌≡◌, Some, rules}
use Rattle.std.specs.Prelude.{option_copied}
use Rattle.ipfix_datagrams.specs.Datagrams.{template_in}
use Rattle.ipfix_datagrams.proofs.Replacing.{nothing_replaced, other_replaced}
use Rattle.ipfix_datagrams.proofs.changes.push_replaced.Goals as goal

pub returns-then-is_same_template : goal.returns-then-is_same_template
returns-then-is_same_template c =
    let t = c.args.template.now in
    let found : template_in (option_copied c.args.before) t.id ≡ Some c.template-known.result.now = search rules in
    nothing_replaced t c.template-known.result.now _ c.is_same_template.result c.args.withdrawn.now.items found c.is_same_template.ensures c.if-is_same_template.true

pub returns : goal.returns
returns c =
    let t = c.args.template.now in
    let found : template_in (option_copied c.args.before) t.id ≡ Some c.template-known.result.now = search rules in
    other_replaced t c.template-known.result.now _ c.is_same_template.result c.args.withdrawn.now.items c.push.new.self.items found c.is_same_template.ensures c.if-is_same_template.false c.in_ok-push.ensures.items
