use Rattle.std.proofs.Common.{◌≡◌, Some, None, sym, ◌∙◌, rules}
use Rattle.std.specs.Ordering.{nat_cmp}
use Rattle.std.specs.BTreeMap.{get}
use Rattle.ipfix_message.specs.TemplatesInForce.{in_force}
use Rattle.ipfix_message.proofs.Decoding.{no_template, data_set}
use Rattle.ipfix_message.proofs.sets.take_data_set.Goals as goal

pub returns-in-None-clause-gives : goal.returns-in-None-clause-gives
returns-in-None-clause-gives c = λ d holds.
    let found : get nat_cmp c.args.templates.now c.args.id ≡ None = search rules in
    no_template c.args.decoded.now.header d c.args.body.now c.args.templates.now.entries c.args.decoded.now (in_force d.events c.args.id) holds (sym (holds.templates.at c.args.id) ∙ found)

pub returns-in-Some-clause-gives : goal.returns-in-Some-clause-gives
returns-in-Some-clause-gives c = λ d holds.
    let found : get nat_cmp c.args.templates.now c.args.id ≡ Some c.in-Some.known.now = search rules in
    data_set c.args.decoded.now.header d c.args.body.now c.args.templates.now.entries c.args.decoded.now (in_force d.events c.args.id) c.in-Some.known.now c.take_records.result c.take_records.new.out holds (sym (holds.templates.at c.args.id) ∙ found)
    c.take_records.ensures
