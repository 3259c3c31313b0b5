use Rattle.std.proofs.Common.{◌≡◌, ℕ, Option, sym, ap, ◌∙◌, cond, eqb, is_some, Some, None, subst, rules}
use Rattle.std.specs.Prelude.{option_copied}
use Rattle.std.specs.BTreeMap.{get}
use Rattle.std.specs.Ordering.{nat_cmp}
use Rattle.ipfix_message.specs.declared.record.Template.{Template}
use Rattle.ipfix_message.specs.Domains.{DomainsView, template_for}
use Rattle.ipfix_message.specs.TemplatesInForce.{in_force}
use Rattle.ipfix_datagrams.specs.Datagrams.{KeepsWithdrawn, Leaves, LeavesBy, preparation_of, template_at, template_in}
use Rattle.ipfix_datagrams.specs.Attempts.{with_ended}
use Rattle.ipfix_datagrams.proofs.Kept.{keeps_with, on_kept}
use Rattle.ipfix_datagrams.proofs.WithdrawnKept.{taken_out}
use Rattle.ipfix_datagrams.proofs.withdrawn_templates.keep_withdrawn.Goals as goal

pub put_back-requires : goal.put_back-requires
put_back-requires c = taken_out c.args.domain (template_at c.args.withdrawn.now) (template_at c.take_out-kept.new.withdrawn) c.take_out-kept.ensures.others

pub returns-in_default : goal.returns-in_default
returns-in_default c = λ s keeps.
    let none : c.args.reading.now.after ≡ None = search rules in
    let stays : s.given.domains ≡ s.history = subst (λ (o : Option DomainsView). LeavesBy o s.history s.given) none s.reading.leaves in
    rw stays keeps

pub returns : goal.returns
returns c = λ s keeps.
    let r = c.args.reading.now in
    let ds = s.history in
    let x = s.given in
    let reading = s.reading in
    let same = s.of_domain in
    let d = c.args.domain in
    let some : r.after ≡ Some c.in-Some.domain_after = search rules in
    let leaves : Leaves c.in-Some.domain_after x = subst (λ (o : Option DomainsView). LeavesBy o ds x) some reading.leaves in
    let now : ℕ → Option Template = λ id. template_in (option_copied c.templates-after.result) id in
    let given : ℕ → Option Template = λ id. get nat_cmp r.defined id in
    let before : ℕ → Option Template = λ id. template_in (option_copied c.templates.result) id in
    let last : ℕ → Option Template = λ id. get nat_cmp r.definitions id in
    let at_first : ℕ → Option Template = λ id. get nat_cmp c.take_out-kept.result id in
    let at_last : ℕ → Option Template = λ id. get nat_cmp c.drop_known.new.kept id in
    let nows : (id : ℕ) → now id ≡ in_force x.decoding.events id = λ id.
    c.templates-after.ensures.found leaves.represents.fresh leaves.history leaves.represents.stands id ∙ ap (λ (q : ℕ). template_for leaves.history q id) (sym same) ∙ leaves.same id in
    let lefts : (id : ℕ) → at_last id ≡ cond (is_some (now id)) None (with_ended (now id) (last id) (with_ended (now id) (given id) (with_ended (now id) (before id) (at_first id)))) = λ id.
    c.drop_known.ensures id ∙ ap (λ (o : Option Template). cond (is_some (now id)) None o) (c.in_ok-put_ended-2.ensures id ∙ ap (with_ended (now id) (last id)) (c.in_ok-put_ended.ensures id ∙ ap (with_ended (now id) (given id)) (c.in_ok-put_before.ensures id))) in
    on_kept c.put_back.result ((q id : ℕ) → template_at c.put_back.new.withdrawn q id ≡ cond (eqb q d) (at_last id) (template_at c.take_out-kept.new.withdrawn q id)) (KeepsWithdrawn c.put_back.new.withdrawn x.domains)
    (keeps_with s.basis ds s.datagram (preparation_of r) x d c.args.withdrawn.now c.take_out-kept.new.withdrawn c.put_back.new.withdrawn now last given before at_first at_last keeps reading.taken same nows reading.defines reading.before
    (λ id. c.templates.ensures.found s.represents.fresh ds s.represents.stands id) c.take_out-kept.ensures.kept lefts c.take_out-kept.ensures.others)
    c.put_back.ensures
