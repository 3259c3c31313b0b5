use Rattle.std.proofs.Common.{◌≡◌, ◌<◌, true, false, length, refl, sym, ◌∙◌, rules}
use Rattle.std.proofs.lemmas.Result.{err_from_is_err_and}
use Rattle.ipfix_message.specs.Messages.{sets_from}
use Rattle.ipfix_message.specs.Sets.{Set, is_template_set, has_template_set}
use Rattle.ipfix_message.proofs.DataChecks.{goes_on, faults_in, ends, is_done, template_set_next, template_set_none}
use Rattle.ipfix_message.proofs.data_check.check_sets.Goals as goal

pub returns-in_err-id-clause-sets : goal.returns-in_err-id-clause-sets
returns-in_err-id-clause-sets c = λ h d agrees.
    let p = err_from_is_err_and c.from_residual.result c.from_residual.ensures.1 in
    let some : 0 < length c.loop-rest.rest.now = search rules in
    rw (p.1, p.2) (ends c.in_err-id.field-0.0 h d c.loop-rest.rest.now (sets_from h d c.args.octets.now) some (λ lack. c.in_err-id.ensures.memory cc) c.in_err-id.ensures.exact (c.loop-rest.invariant.checking h d agrees))

pub returns-then-is_template_set-clause-data : goal.returns-then-is_template_set-clause-data
returns-then-is_template_set-clause-data c =
    let set : Set = record { id = c.in_ok-id.id; body = c.in_ok-id.body.now } in
    let was : c.is_template_set.result ≡ true = search rules in
    let is : is_template_set set ≡ true = sym (c.is_template_set.ensures c.in_ok-id.body.now) ∙ was in
    let here : has_template_set c.loop-rest.rest.now ≡ true = template_set_next c.loop-rest.rest.now set c.in_ok-id.after.now c.in_ok-id.ensures.exact ∙ rw is refl in
    rw (sym c.loop-rest.invariant.template_sets ∙ here) refl

pub check_set-requires : goal.check_set-requires
check_set-requires c =
    let was : c.is_template_set.result ≡ false = search rules in
    sym (c.is_template_set.ensures c.in_ok-id.body.now) ∙ was

pub returns-in_err-check_set-clause-sets : goal.returns-in_err-check_set-clause-sets
returns-in_err-check_set-clause-sets c = λ h d agrees.
    let p = err_from_is_err_and c.from_residual-in_err-check_set.result c.from_residual-in_err-check_set.ensures.1 in
    let set : Set = record { id = c.in_ok-id.id; body = c.in_ok-id.body.now } in
    rw (p.1, p.2) (faults_in c.in_err-check_set.field-0.0 h c.args.templates.now.entries d c.loop-rest.rest.now set c.in_ok-id.after.now (sets_from h d c.args.octets.now)
    c.in_ok-id.ensures.exact c.in_err-check_set.ensures agrees (c.loop-rest.invariant.checking h d agrees))

pub loop-rest-preserved : goal.loop-rest-preserved
loop-rest-preserved c =
    let set : Set = record { id = c.in_ok-id.id; body = c.in_ok-id.body.now } in
    let was : c.is_template_set.result ≡ false = search rules in
    let is_none : is_template_set set ≡ false = sym (c.is_template_set.ensures c.in_ok-id.body.now) ∙ was in
    record {
      checking = λ h d agrees. goes_on h c.args.templates.now.entries d c.loop-rest.rest.now set c.in_ok-id.after.now (sets_from h d c.args.octets.now)
          c.in_ok-id.ensures.exact c.in_ok-check_set.ensures agrees (c.loop-rest.invariant.checking h d agrees);
      template_sets = sym (template_set_next c.loop-rest.rest.now set c.in_ok-id.after.now c.in_ok-id.ensures.exact ∙ rw is_none refl) ∙ c.loop-rest.invariant.template_sets;
    }

pub returns-clause-sets : goal.returns-clause-sets
returns-clause-sets c = λ h d agrees.
    let none : length c.loop-rest.rest.now ≡ 0 = search rules in
    is_done h d c.loop-rest.rest.now (sets_from h d c.args.octets.now) none (c.loop-rest.invariant.checking h d agrees)

pub returns-clause-data : goal.returns-clause-data
returns-clause-data c =
    let none : length c.loop-rest.rest.now ≡ 0 = search rules in
    rw (sym c.loop-rest.invariant.template_sets ∙ template_set_none c.loop-rest.rest.now none) refl
