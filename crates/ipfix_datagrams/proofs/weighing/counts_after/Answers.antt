use Rattle.std.proofs.Common.{ℕ, Option, ap, ◌∙◌, rules}
use Rattle.std.specs.Prelude.{option_copied, option_map}
use Rattle.std.specs.Option.{option_or}
use Rattle.std.specs.BTreeMap.{BTreeMap, get}
use Rattle.std.specs.Ordering.{nat_cmp}
use Rattle.ipfix_message.specs.declared.record.Template.{Template}
use Rattle.ipfix_message.specs.TemplateLimits.{fields_of}
use Rattle.ipfix_datagrams.specs.Datagrams.{preparation_of, template_in}
use Rattle.ipfix_datagrams.proofs.Weighed.{counts_known}
use Rattle.ipfix_datagrams.proofs.weighing.counts_after.Goals as goal

pub returns : goal.returns
returns c = λ s keeps id.
    let r = c.args.reading.now in
    let is = s.reading in
    let d = c.args.domain in
    let last = get nat_cmp r.definitions id in
    let given = get nat_cmp r.defined id in
    let before = template_in (option_copied c.templates.result) id in
    let kept = template_in (option_copied c.get.result) id in
    counts_known s.basis s.history s.datagram (preparation_of r) s.given d id _ _ last given before kept is.taken s.of_domain (is.defines id) (is.before id) (c.templates.ensures.found s.represents.fresh s.history s.represents.stands id)
    (ap (λ (o : Option (BTreeMap ℕ Template)). template_in o id) c.get.ensures.value ∙ keeps.withdrawn.at d id) (search rules)
    (c.in_ok-count_all-2.ensures id ∙ ap (option_or (option_map fields_of last)) (c.in_ok-count_all.ensures id ∙ ap (option_or (option_map fields_of given)) (c.in_ok-count_if-2.ensures id ∙ ap (option_or (option_map fields_of before)) (c.in_ok-count_if.ensures id))))
