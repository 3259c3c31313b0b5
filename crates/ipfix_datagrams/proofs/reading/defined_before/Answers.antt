use Rattle.std.proofs.Common.{◌≡◌, ℕ, Option, ap, ap₂, ◌∙◌}
use Rattle.std.specs.Prelude.{option_copied}
use Rattle.std.specs.Option.{option_or}
use Rattle.std.specs.Ordering.{nat_cmp}
use Rattle.std.specs.BTreeMap.{BTreeMap, get, values}
use Rattle.ipfix_message.specs.declared.record.Template.{Template}
use Rattle.ipfix_datagrams.specs.Datagrams.{template_in, withdrawn_in}
use Rattle.ipfix_datagrams.proofs.Resumed.{resumed_in}
use Rattle.ipfix_datagrams.proofs.reading.defined_before.Goals as goal

pub returns-clause-ordered : goal.returns-clause-ordered
returns-clause-ordered c = c.in_ok-resume.ensures.ordered c.in_ok-defined.ensures.ordered

pub returns-clause-before : goal.returns-clause-before
returns-clause-before c = λ ds m represents keeps sets id.
    let d = c.args.domain in
    let first = c.args.first.now in
    let in_force : ℕ → Option Template = λ q. template_in (option_copied c.templates-in_force.result) q in
    let withdrawn : ℕ → Option Template = λ q. template_in (option_copied c.get.result) q in
    let outs : (q : ℕ) → withdrawn q ≡ withdrawn_in ds d q = λ q. ap (λ (o : Option (BTreeMap ℕ Template)). template_in o q) c.get.ensures.value ∙ keeps.withdrawn.at d q in
    c.in_ok-resume.ensures.puts id
    ∙ ap₂ (λ (a b : Option Template). option_or a b) (c.in_ok-defined.ensures.again ds m keeps sets id)
    (resumed_in (values c.args.resumed.now) ds m d in_force withdrawn (get nat_cmp first) (λ q. c.templates-in_force.ensures.found represents.fresh ds represents.stands q) outs sets.defines.at id)
