use Rattle.std.proofs.Common.{◌≡◌, ◌<◌, ◌∙◌, length, arith, rules}
use Rattle.std.proofs.lemmas.Result.{err_from_is_err_and}
use Rattle.ipfix_message.specs.Messages.{sets_from}
use Rattle.ipfix_message.proofs.MessageSets.{next_set-less}
use Rattle.ipfix_message.proofs.Decoding.{goes_on, faults, ends, is_done}
use Rattle.ipfix_message.proofs.sets.take_sets.Goals as goal

pub returns-in_err-id-clause-gives : goal.returns-in_err-id-clause-gives
returns-in_err-id-clause-gives c = λ d holds.
    let p = err_from_is_err_and c.from_residual.result c.from_residual.ensures.1 in
    let some : 0 < length c.loop-rest.rest.now = search rules in
    rw (p.1, p.2) (ends c.in_err-id.field-0.0 c.args.decoded.now.header c.loop-rest.templates.entries c.loop-rest.decoded c.loop-rest.rest.now (sets_from c.args.decoded.now.header d c.args.octets.now) some c.in_err-id.ensures.exact (c.loop-rest.invariant.going d holds))

pub take_set-requires-clause-few : goal.take_set-requires-clause-few
take_set-requires-clause-few c =
    let less = next_set-less c.loop-rest.rest.now (record { id = c.in_ok-id.id; body = c.in_ok-id.body.now }) c.in_ok-id.after.now c.in_ok-id.ensures.exact in
    omega (arith, less, c.loop-rest.invariant.few, c.requires.few)

pub take_set-requires-clause-room : goal.take_set-requires-clause-room
take_set-requires-clause-room c = omega (arith, c.in_ok-id.ensures.room, c.loop-rest.invariant.room, c.requires.room)

pub returns-in_err-take_set-clause-gives : goal.returns-in_err-take_set-clause-gives
returns-in_err-take_set-clause-gives c = λ d holds.
    let p = err_from_is_err_and c.from_residual-in_err-take_set.result c.from_residual-in_err-take_set.ensures.1 in
    rw (p.1, p.2) (faults c.in_err-take_set.field-0.0 c.args.decoded.now.header c.loop-rest.templates.entries c.loop-rest.decoded c.loop-rest.rest.now (record { id = c.in_ok-id.id; body = c.in_ok-id.body.now }) c.in_ok-id.after.now (sets_from c.args.decoded.now.header d c.args.octets.now)
    c.in_ok-id.ensures.exact (λ e h. rw c.loop-rest.invariant.header at (c.in_err-take_set.ensures.gives e h)) (c.loop-rest.invariant.going d holds))

pub loop-rest-smaller : goal.loop-rest-smaller
loop-rest-smaller c =
    let less = next_set-less c.loop-rest.rest.now (record { id = c.in_ok-id.id; body = c.in_ok-id.body.now }) c.in_ok-id.after.now c.in_ok-id.ensures.exact in
    omega (arith, less)

pub loop-rest-preserved : goal.loop-rest-preserved
loop-rest-preserved c =
    let less = next_set-less c.loop-rest.rest.now (record { id = c.in_ok-id.id; body = c.in_ok-id.body.now }) c.in_ok-id.after.now c.in_ok-id.ensures.exact in
    record {
      going = λ d holds. goes_on c.args.decoded.now.header c.loop-rest.templates.entries c.take_set.new.templates.entries c.loop-rest.decoded c.take_set.new.decoded c.loop-rest.rest.now (record { id = c.in_ok-id.id; body = c.in_ok-id.body.now }) c.in_ok-id.after.now (sets_from c.args.decoded.now.header d c.args.octets.now)
          c.in_ok-id.ensures.exact (λ e h. rw c.loop-rest.invariant.header at (c.in_ok-take_set.ensures.gives e h)) (c.loop-rest.invariant.going d holds);
      header = c.take_set.ensures.header ∙ c.loop-rest.invariant.header;
      room = omega (arith, less, c.loop-rest.invariant.room);
      few = omega (arith, less, c.loop-rest.invariant.few, c.in_ok-take_set.ensures.few);
    }

pub returns-clause-gives : goal.returns-clause-gives
returns-clause-gives c = λ d holds.
    let none : length c.loop-rest.rest.now ≡ 0 = search rules in
    is_done c.args.decoded.now.header c.loop-rest.templates.entries c.loop-rest.decoded c.loop-rest.rest.now (sets_from c.args.decoded.now.header d c.args.octets.now) none (c.loop-rest.invariant.going d holds)
