use Rattle.std.proofs.lemmas.Result.{err_from_is_err_and}
use Rattle.ipfix_message.proofs.Decoding.{template_set, template_set_fails}
use Rattle.ipfix_message.proofs.sets.take_template_set.Goals as goal

pub returns-in_err-ignored-clause-gives : goal.returns-in_err-ignored-clause-gives
returns-in_err-ignored-clause-gives c = λ d holds.
    let p = err_from_is_err_and c.from_residual.result c.from_residual.ensures.1 in
    rw (p.1, p.2) (template_set_fails c.in_err-ignored.field-0.0 c.args.kind d c.args.body.now (c.in_err-ignored.ensures.gives d.events holds.templates))

pub returns-clause-gives : goal.returns-clause-gives
returns-clause-gives c = λ d holds.
    template_set c.args.kind d c.args.body.now c.args.templates.now.entries c.take_templates.new.templates.entries c.args.decoded.now c.in_ok-ignored.ignored holds (c.in_ok-ignored.ensures.gives d.events holds.templates)
