use Rattle.std.proofs.Common.{◌≡◌, Some, refl, rules}
use Rattle.std.specs.Prelude.{nat_eq}
use Rattle.std.proofs.lemmas.Result.{err_from_is_err_and}
use Rattle.indexmap.specs.IndexMap.{get}
use Rattle.ipfix_message.proofs.History.{bad_domain, bad_sets, good_message, was_admitted}
use Rattle.ipfix_message.proofs.message.read_message.Goals as goal

pub returns-in_err-admit-clause-gives : goal.returns-in_err-admit-clause-gives
returns-in_err-admit-clause-gives c = λ ds stands.
    let p = err_from_is_err_and c.from_residual.result c.from_residual.ensures.1 in
    rw (p.1, p.2) (bad_domain c.in_err-admit.field-0.0 ds c.args.message.now c.args.header.now c.requires (c.in_err-admit.ensures.gives ds stands))

pub returns-in_err-admit-clause-memory : goal.returns-in_err-admit-clause-memory
returns-in_err-admit-clause-memory c = λ want ds stands.
    let p = err_from_is_err_and c.from_residual.result c.from_residual.ensures.1 in
    record { header = c.args.header.now; good = c.requires; domain = c.in_err-admit.ensures.memory (cc) ds stands }

pub returns-in_err-take_sets-clause-memory : goal.returns-in_err-take_sets-clause-memory
returns-in_err-take_sets-clause-memory c = λ want ds stands. was_admitted ds c.args.message.now c.args.header.now _ c.requires (c.in_ok-admit.ensures.gives ds stands)

pub returns-in_err-take_sets-clause-gives : goal.returns-in_err-take_sets-clause-gives
returns-in_err-take_sets-clause-gives c = λ ds stands.
    let p = err_from_is_err_and c.from_residual-in_err-take_sets.result c.from_residual-in_err-take_sets.ensures.1 in
    let found : get nat_eq c.admit.new.known c.args.header.now.domain ≡ Some c.unwrap-templates.result.now = search rules in
    rw (p.1, p.2) (bad_sets c.in_err-take_sets.field-0.0 ds c.args.message.now c.args.header.now c.admit.new.known.entries c.unwrap-templates.result.now _ c.requires
    (c.in_ok-admit.ensures.gives ds stands) found
    (λ es agrees. record { templates = agrees; records = c.new.ensures.items; passed_over = refl })
    (λ d holds. rw c.after_header.ensures.octets at (c.in_err-take_sets.ensures.gives d holds)))

pub returns-clause-gives : goal.returns-clause-gives
returns-clause-gives c = λ ds stands.
    let found : get nat_eq c.admit.new.known c.args.header.now.domain ≡ Some c.unwrap-templates.result.now = search rules in
    good_message ds c.args.message.now c.args.header.now c.admit.new.known.entries c.unwrap-templates.result.now c.take_sets.new.templates _ c.take_sets.new.decoded _ c.requires
    (c.in_ok-admit.ensures.gives ds stands) found
    (λ es agrees. record { templates = agrees; records = c.new.ensures.items; passed_over = refl })
    (λ d holds. rw c.after_header.ensures.octets at (c.in_ok-take_sets.ensures.gives d holds))
    c.take_sets.ensures.header (c.get_mut.follows.holds c.take_sets.new.templates).0
