use Rattle.std.proofs.Common.{◌≡◌, ◌≤◌, ℕ, Option, Ok, Err, sym, subst}
use Rattle.std.proofs.lemmas.Result.{err_from_is_err_and}
use Rattle.ipfix_message.specs.Domains.{Decodes}
use Rattle.ipfix_message.specs.Outcome.{Fails}
use Rattle.ipfix_message.specs.declared.fault.MessageFault.TheVariants.{TooManyFields}
use Rattle.ipfix_message.specs.TemplateLimits.{IsWithin, fields_in, message_within}
use Rattle.ipfix_message.proofs.TemplateLimits.{decoded_within, fails_within, left_as_before, message_exceeds}
use Rattle.ipfix_message.proofs.domains.Domains.decode_within.Goals as goal

pub returns-in_err-decoded-clause-gives : goal.returns-in_err-decoded-clause-gives
returns-in_err-decoded-clause-gives c = λ fresh ds stands within.
    let p = err_from_is_err_and c.from_residual.result c.from_residual.ensures.1 in
    let f = c.in_err-decoded.field-0.0 in
    rw (p.1, p.2) (subst (λ (l : Option ℕ). Fails f (message_within l ds c.args.message.now)) (sym c.in-Some.is) (fails_within c.in-Some.limit ds c.args.message.now f (c.in_err-decoded.ensures.gives fresh ds stands)))

pub returns-then-is_left_within-clause-gives : goal.returns-then-is_left_within-clause-gives
returns-then-is_left_within-clause-gives c = λ fresh ds stands within.
    let read = c.in_ok-decoded.ensures.gives fresh ds stands in
    let fits = subst (λ (l : Option ℕ). IsWithin l ds) c.in-Some.is within in
    let left : fields_in read.0.domains ≤ c.in-Some.limit = c.if-is_left_within.ensures read.0.domains read.3 (λ none. left_as_before c.in-Some.limit ds read.0 (c.may_add-may_add.ensures ds read.0 stands none read.1) fits) in
    subst (λ (l : Option ℕ). Decodes (Ok c.in_ok-decoded.decoded) c.decode_with_header-2.new.self.domains (message_within l ds c.args.message.now)) (sym c.in-Some.is)
    (decoded_within c.in-Some.limit ds c.args.message.now c.in_ok-decoded.decoded c.decode_with_header-2.new.self.domains read left)

pub returns-clause-gives : goal.returns-clause-gives
returns-clause-gives c = λ fresh ds stands within.
    let read = c.in_ok-decoded.ensures.gives fresh ds stands in
    let fits = subst (λ (l : Option ℕ). IsWithin l ds) c.in-Some.is within in
    let above = c.if-is_left_within.ensures read.0.domains read.3 (λ none. left_as_before c.in-Some.limit ds read.0 (c.may_add-may_add.ensures ds read.0 stands none read.1) fits) in
    subst (λ (l : Option ℕ). message_within l ds c.args.message.now ≡ Err TooManyFields) (sym c.in-Some.is) (message_exceeds c.in-Some.limit ds c.args.message.now read.0 read.1 above)
