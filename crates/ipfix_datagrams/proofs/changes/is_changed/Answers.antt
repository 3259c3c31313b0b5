use Rattle.std.proofs.Common.{◌≡◌, Option, Some, sym, ap, ◌∙◌, rules}
use Rattle.std.specs.Prelude.{option_copied}
use Rattle.std.specs.BTreeMap.{get}
use Rattle.std.specs.Ordering.{nat_cmp}
use Rattle.ipfix_message.specs.declared.record.Template.{Template}
use Rattle.ipfix_datagrams.specs.Datagrams.{is_changed_by}
use Rattle.ipfix_datagrams.proofs.DefinedAgain.{not_replaced}
use Rattle.ipfix_datagrams.proofs.changes.is_changed.Goals as goal

pub returns : goal.returns
returns c =
    let found : get nat_cmp c.args.last.now c.args.id ≡ Some c.template.result.now = search rules in
    let known : option_copied c.args.known ≡ Some c.template-2.result.now = search rules in
    not_replaced c.template.result.now c.template-2.result.now (option_copied c.args.known) c.is_same_template.result known c.is_same_template.ensures
    ∙ ap (λ (o : Option Template). is_changed_by o (option_copied c.args.known)) (sym found)
