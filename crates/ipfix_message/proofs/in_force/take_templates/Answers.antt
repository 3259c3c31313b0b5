use Rattle.std.proofs.Common.{◌≡◌, ◌+◌, ℕ, Bool, true, false, Ok, ap, subst, ◌∙◌, arith, rules}
use Rattle.std.proofs.lemmas.Result.{err_from_is_err_and}
use Rattle.ipfix_message.specs.TemplateRecords.{is_padding}
use Rattle.ipfix_message.specs.TemplatesInForce.{template_set_gives}
use Rattle.ipfix_message.proofs.TemplateRecords.{event_at-takes}
use Rattle.ipfix_message.proofs.TemplateSets.{Going, goes_on, ends, changes, is_done}
use Rattle.ipfix_message.proofs.in_force.take_templates.Goals as goal

pub returns-in_err-event-clause-gives : goal.returns-in_err-event-clause-gives
returns-in_err-event-clause-gives c = λ es agrees.
    let p = err_from_is_err_and c.from_residual.result c.from_residual.ensures.1 in
    let long : is_padding c.loop-rest.rest.now ≡ false = search rules in
    rw (p.1, p.2) (ends c.in_err-event.field-0.0 c.args.kind c.loop-rest.templates.entries c.loop-rest.ignored c.loop-rest.rest.now (template_set_gives c.args.kind es c.args.body.now)
    long c.in_err-event.ensures (c.loop-rest.invariant.going es agrees))

pub returns-in_err-take_event-clause-gives : goal.returns-in_err-take_event-clause-gives
returns-in_err-take_event-clause-gives c = λ es agrees.
    let p = err_from_is_err_and c.from_residual-in_err-take_event.result c.from_residual-in_err-take_event.ensures.1 in
    rw (p.1, p.2) (changes c.in_err-take_event.field-0.0 c.args.kind c.loop-rest.templates.entries c.loop-rest.ignored c.loop-rest.rest.now c.in_ok-event.event c.in_ok-event.after.now (template_set_gives c.args.kind es c.args.body.now)
    c.in_ok-event.ensures (λ fs h. c.in_err-take_event.ensures.gives fs h) (c.loop-rest.invariant.going es agrees))

pub loop-rest-smaller-then-branch : goal.loop-rest-smaller-then-branch
loop-rest-smaller-then-branch c = event_at-takes c.args.kind c.loop-rest.rest.now c.in_ok-event.event c.in_ok-event.after.now c.in_ok-event.ensures

pub loop-rest-preserved-then-branch : goal.loop-rest-preserved-then-branch
loop-rest-preserved-then-branch c =
    let less = event_at-takes c.args.kind c.loop-rest.rest.now c.in_ok-event.event c.in_ok-event.after.now c.in_ok-event.ensures in
    record {
      going = λ es agrees. goes_on c.args.kind c.loop-rest.templates.entries c.take_event.new.templates.entries c.loop-rest.ignored c.loop-rest.rest.now c.in_ok-event.event c.in_ok-event.after.now true (template_set_gives c.args.kind es c.args.body.now)
          c.in_ok-event.ensures (λ fs h. c.in_ok-take_event.ensures.gives fs h ∙ ap (λ (b : Bool). Ok b) c.if-branch.true) (λ fs h. c.in_ok-take_event.ensures.ok fs h) (c.loop-rest.invariant.going es agrees);
      room = omega (arith, less, c.loop-rest.invariant.room);
    }

pub loop-rest-smaller : goal.loop-rest-smaller
loop-rest-smaller c = event_at-takes c.args.kind c.loop-rest.rest.now c.in_ok-event.event c.in_ok-event.after.now c.in_ok-event.ensures

pub loop-rest-preserved : goal.loop-rest-preserved
loop-rest-preserved c =
    let less = event_at-takes c.args.kind c.loop-rest.rest.now c.in_ok-event.event c.in_ok-event.after.now c.in_ok-event.ensures in
    let same : c.loop-rest.ignored + 0 ≡ c.loop-rest.ignored = omega arith in
    record {
      going = λ es agrees. subst (λ (n : ℕ). Going c.args.kind c.take_event.new.templates.entries n c.in_ok-event.after.now (template_set_gives c.args.kind es c.args.body.now)) same
          (goes_on c.args.kind c.loop-rest.templates.entries c.take_event.new.templates.entries c.loop-rest.ignored c.loop-rest.rest.now c.in_ok-event.event c.in_ok-event.after.now false (template_set_gives c.args.kind es c.args.body.now)
          c.in_ok-event.ensures (λ fs h. c.in_ok-take_event.ensures.gives fs h ∙ ap (λ (b : Bool). Ok b) c.if-branch.false) (λ fs h. c.in_ok-take_event.ensures.ok fs h) (c.loop-rest.invariant.going es agrees));
      room = omega (arith, less, c.loop-rest.invariant.room);
    }

pub returns-clause-gives : goal.returns-clause-gives
returns-clause-gives c = λ es agrees.
    let pad : is_padding c.loop-rest.rest.now ≡ true = search rules in
    is_done c.args.kind c.loop-rest.templates.entries c.loop-rest.ignored c.loop-rest.rest.now (template_set_gives c.args.kind es c.args.body.now) pad (c.loop-rest.invariant.going es agrees)
