use Rattle.std.proofs.Common.{◌≡◌, Some, rules}
use Rattle.std.specs.BTreeMap.{get}
use Rattle.std.specs.Ordering.{nat_cmp}
use Rattle.ipfix_datagrams.proofs.DefinedAgain.{not_replaced}
use Rattle.ipfix_datagrams.proofs.again.is_replaced.Goals as goal

pub returns : goal.returns
returns c =
    let found : get nat_cmp c.args.first.now c.args.id ≡ Some c.template.result.now = search rules in
    not_replaced c.args.template.now c.template.result.now _ c.is_same_template.result found c.is_same_template.ensures
