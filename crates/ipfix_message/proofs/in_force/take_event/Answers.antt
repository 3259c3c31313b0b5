use Rattle.std.proofs.Common.{Option, Ok, ap, sym, subst, refl, ◌∙◌}
use Rattle.std.proofs.lemmas.Result.{err_from_is_err_and}
use Rattle.ipfix_message.specs.declared.record.Template.{Template}
use Rattle.ipfix_message.specs.Outcome.{Fails}
use Rattle.ipfix_message.specs.TemplatesInForce.{is_none_of, event_gives}
use Rattle.ipfix_message.specs.Held.{defining}
use Rattle.ipfix_message.proofs.TemplateSets.{defined, not_defined, agrees_define, agrees_withdraw, agrees_withdraw_all}
use Rattle.ipfix_message.proofs.in_force.take_event.Goals as goal

pub returns-in_err-define-in-Define-clause-gives : goal.returns-in_err-define-in-Define-clause-gives
returns-in_err-define-in-Define-clause-gives c = λ es agrees.
    let p = err_from_is_err_and c.from_residual.result c.from_residual.ensures.1 in
    rw (c.in-Define.is, p.1, p.2) (not_defined c.in_err-define-in-Define.field-0.0 es c.in-Define.new (subst (λ (o : Option Template). Fails c.in_err-define-in-Define.field-0.0 (defining c.in-Define.new o)) (agrees.at c.in-Define.new.id) c.in_err-define-in-Define.ensures.gives))

pub returns-in_ok-define-in-Define-clause-gives : goal.returns-in_ok-define-in-Define-clause-gives
returns-in_ok-define-in-Define-clause-gives c = λ es agrees.
    rw c.in-Define.is (defined es c.in-Define.new (ap (defining c.in-Define.new) (sym (agrees.at c.in-Define.new.id)) ∙ c.in_ok-define-in-Define.ensures.gives))

pub returns-in_ok-define-in-Define-clause-ok : goal.returns-in_ok-define-in-Define-clause-ok
returns-in_ok-define-in-Define-clause-ok c = λ es agrees.
    rw c.in-Define.is (agrees_define c.args.templates.now.entries c.define.new.templates.entries es c.in-Define.new agrees c.in_ok-define-in-Define.ensures.ok)

pub returns-in-Withdraw-clause-gives : goal.returns-in-Withdraw-clause-gives
unfolding event_gives
returns-in-Withdraw-clause-gives c = λ es agrees.
    rw (c.in-Withdraw.is, c.withdraw.ensures.ignored) (ap (λ (o : Option Template). Ok (is_none_of c.in-Withdraw.kind o)) (sym (agrees.at c.in-Withdraw.id)))

pub returns-in-Withdraw-clause-ok : goal.returns-in-Withdraw-clause-ok
returns-in-Withdraw-clause-ok c = λ es agrees.
    rw c.in-Withdraw.is (agrees_withdraw c.args.templates.now.entries c.withdraw.new.templates.entries es c.in-Withdraw.kind c.in-Withdraw.id agrees c.withdraw.ensures.left)

pub returns-in-WithdrawAll-clause-gives : goal.returns-in-WithdrawAll-clause-gives
unfolding event_gives
returns-in-WithdrawAll-clause-gives c = λ es agrees. rw (c.in-WithdrawAll.is, event_gives) refl

pub returns-in-WithdrawAll-clause-ok : goal.returns-in-WithdrawAll-clause-ok
returns-in-WithdrawAll-clause-ok c = λ es agrees.
    rw c.in-WithdrawAll.is (agrees_withdraw_all c.args.templates.now.entries c.withdraw_all.new.templates.entries es c.in-WithdrawAll.kind agrees c.withdraw_all.ensures)
