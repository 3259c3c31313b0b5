use Rattle.std.proofs.Common.{false, List, get_or, take, sym, subst, ◌∙◌, inr}
use Rattle.std.proofs.lemmas.List.{take_more}
use Rattle.std.proofs.lemmas.Result.{err_from_is_err_and}
use Rattle.ipfix_datagrams.specs.declared.withdrawn_template.WithdrawnTemplate.{WithdrawnTemplate}
use Rattle.ipfix_datagrams.specs.Datagrams.{Represents, with_withdrawn}
use Rattle.ipfix_datagrams.proofs.WithdrawnDomains.{withdrawn-push, knows-withdrawn, some_knows}
use Rattle.ipfix_datagrams.proofs.withdrawing.withdraw_all.Goals as goal

abbrev no_template : WithdrawnTemplate
no_template = record { id = 0; is_options = false }

pub returns-in_err-withdraw : goal.returns-in_err-withdraw
returns-in_err-withdraw c = λ ds represents may.
    let d = c.args.header.now.domain in
    let there = some_knows ds d c.args.templates.now c.loop-template.template-index c.loop-template-test.true may in
    let ws = take c.loop-template.template-index c.args.templates.now in
    let was = c.loop-template.invariant ds represents may in
    let p = err_from_is_err_and c.from_residual.result c.from_residual.ensures.1 in
    rw (p.1, p.2) (c.in_err-withdraw.ensures (with_withdrawn ds d ws) was (inr (knows-withdrawn ds d ws d ∙ there)))

pub loop-template-preserved : goal.loop-template-preserved
loop-template-preserved c = λ ds represents may.
    let d = c.args.header.now.domain in
    let there = some_knows ds d c.args.templates.now c.loop-template.template-index c.loop-template-test.true may in
    let i = c.loop-template.template-index in
    let ws = take i c.args.templates.now in
    let was = c.loop-template.invariant ds represents may in
    let step = c.in_ok-withdraw.ensures (with_withdrawn ds d ws) was (inr (knows-withdrawn ds d ws d ∙ there)) in
    let more = withdrawn-push ds d ws (get_or c.args.templates.now i no_template) in
    subst (λ (xs : List WithdrawnTemplate). Represents c.withdraw.new.domains (with_withdrawn ds d xs)) (sym (take_more c.args.templates.now i no_template c.loop-template-test.true)) (rw more step)
