use Rattle.std.proofs.Common.{◌≡◌, ◌&&◌, Bool, ◌∷◌, ◌++◌, [], List, Ok, arith, sym, ap, ◌∙◌, subst, rules}
use Rattle.ipfix_message.specs.declared.template_record.Event.{Event}
use Rattle.ipfix_message.specs.TemplateRecords.{event_at, events_of}
use Rattle.ipfix_message.proofs.TemplateRecords.{event_at-takes}
use Rattle.ipfix_datagrams.proofs.FirstAndLast.{Taking, taking_more, taken_all, defines_as, next_events, no_events, short_events}
use Rattle.ipfix_datagrams.specs.declared.definitions.Definitions.{Definitions}
use Rattle.ipfix_datagrams.specs.Attempts.{Defines}
use Rattle.ipfix_datagrams.specs.Datagrams.{are_withdrawals, is_withdrawal}
use Rattle.ipfix_datagrams.proofs.WithdrawalsAlone.{and_moves, next_withdrawals, no_withdrawals, short_withdrawals}
use Rattle.ipfix_datagrams.proofs.definitions.take_events.Goals as goal

pub returns-in_default-clause-defines : goal.returns-in_default-clause-defines
returns-in_default-clause-defines c = λ es before.
    let none = rw c.in_default.is at c.in_ok-event.ensures in
    let all = es ++ (events_of c.args.kind c.args.body.now).items in
    subst (λ (d : Definitions). Defines d all) (sym c.take_rest.ensures.others) (defines_as c.loop-rest.all _ all (taken_all c.loop-rest.all es (events_of c.args.kind c.args.body.now).items (events_of c.args.kind c.loop-rest.rest.now).items (c.loop-rest.invariant.takes es before)
    (no_events c.args.kind c.loop-rest.rest.now none.0 none.1)))

pub returns-in_default-clause-only : goal.returns-in_default-clause-only
returns-in_default-clause-only c =
    let none = rw c.in_default.is at c.in_ok-event.ensures in
    c.take_rest.ensures.only
    ∙ sym (c.loop-rest.invariant.only ∙ ap (λ (b : Bool). b && c.loop-rest.all.withdraws_only) (no_withdrawals c.args.kind c.loop-rest.rest.now none.0 (search rules) none.1))

pub loop-rest-smaller : goal.loop-rest-smaller
loop-rest-smaller c =
    let is : event_at c.args.kind c.loop-rest.rest.now ≡ Ok (c.in-Some.event, c.in-Some.after.now) = search rules in
    event_at-takes c.args.kind c.loop-rest.rest.now c.in-Some.event c.in-Some.after.now is

pub loop-rest-preserved : goal.loop-rest-preserved
loop-rest-preserved c =
    let w = c.loop-rest.rest.now in
    let r = c.in-Some.after.now in
    let is : event_at c.args.kind w ≡ Ok (c.in-Some.event, r) = search rules in
    let less = event_at-takes c.args.kind w c.in-Some.event r is in
    let all = (events_of c.args.kind c.args.body.now).items in
    record {
      takes = λ es before. taking_more c.loop-rest.all c.take_event.new.all es all (c.in-Some.event ∷ []) (events_of c.args.kind r).items
          (subst (λ (rest : List Event). Taking c.loop-rest.all es all rest) (next_events c.args.kind w c.in-Some.event r is) (c.loop-rest.invariant.takes es before)) c.in_ok-take_event.ensures.defines;
      only = c.loop-rest.invariant.only ∙ ap (λ (b : Bool). b && c.loop-rest.all.withdraws_only) (next_withdrawals c.args.kind w c.in-Some.event r is)
          ∙ and_moves (is_withdrawal c.in-Some.event) (are_withdrawals c.args.kind r) c.loop-rest.all.withdraws_only ∙ ap (λ (b : Bool). are_withdrawals c.args.kind r && b) (sym c.in_ok-take_event.ensures.only);
      room = omega (arith, less, c.loop-rest.invariant.room);
    }

pub returns-clause-only : goal.returns-clause-only
returns-clause-only c =
    sym (c.loop-rest.invariant.only ∙ ap (λ (b : Bool). b && c.loop-rest.all.withdraws_only) (short_withdrawals c.args.kind c.loop-rest.rest.now (omega arith)))

pub returns-clause-defines : goal.returns-clause-defines
returns-clause-defines c = λ es before.
    taken_all c.loop-rest.all es (events_of c.args.kind c.args.body.now).items (events_of c.args.kind c.loop-rest.rest.now).items (c.loop-rest.invariant.takes es before)
    (short_events c.args.kind c.loop-rest.rest.now (omega arith))
