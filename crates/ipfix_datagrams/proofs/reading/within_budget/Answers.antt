use Rattle.std.proofs.Common.{◌≡◌, ℕ, Option, ap, ◌∙◌}
use Rattle.std.specs.Prelude.{option_copied}
use Rattle.std.specs.BTreeMap.{BTreeMap, get}
use Rattle.std.specs.Ordering.{nat_cmp}
use Rattle.ipfix_message.specs.declared.record.Template.{Template}
use Rattle.ipfix_datagrams.specs.Datagrams.{preparation_of, template_in, withdrawn_in}
use Rattle.ipfix_datagrams.proofs.Weighed.{is_changed_here, with_weighed}
use Rattle.ipfix_datagrams.proofs.reading.within_budget.Goals as goal

pub returns-in_ok-changed-in-None-clause-answers : goal.returns-in_ok-changed-in-None-clause-answers
returns-in_ok-changed-in-None-clause-answers c = λ s keeps.
    let r = c.args.reading in
    let d = c.args.domain in
    record {
      preparation = preparation_of r;
      given = s.given;
      taken = s.reading.taken;
      exceeds = rw c.in-None.is at (c.in_ok-after.ensures s keeps);
      are_changed = λ id.
          let kept : template_in (option_copied c.get.result) id ≡ withdrawn_in s.history d id = ap (λ (o : Option (BTreeMap ℕ Template)). template_in o id) c.get.ensures.value ∙ keeps.withdrawn.at d id in
          c.in_ok-changed-in-None.ensures id ∙ is_changed_here s.history s.datagram d s.given.header.domain id (get nat_cmp r.definitions id) (template_in (option_copied c.templates.result) id) (template_in (option_copied c.get.result) id) (s.reading.defines id) (c.templates.ensures.found s.represents.fresh s.history s.represents.stands id) kept s.of_domain;
    }

pub returns-in-Some-clause-answers : goal.returns-in-Some-clause-answers
returns-in-Some-clause-answers c = λ s keeps.
    let weighs = rw c.in-Some.is at (c.in_ok-after.ensures s keeps) in
    with_weighed s.basis c.args.known.now.budget s.history s.datagram c.args.reading c.with_weights.result s.given c.in-Some.weights c.with_weights.ensures s.reading weighs
