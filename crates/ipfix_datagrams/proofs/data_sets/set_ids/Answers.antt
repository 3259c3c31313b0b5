use Rattle.std.proofs.Common.{◌≡◌, length, arith, rules}
use Rattle.ipfix_message.specs.Sets.{Set}
use Rattle.ipfix_message.proofs.MessageSets.{next_set-less}
use Rattle.ipfix_datagrams.proofs.DataSets.{ids_of, one_more_id, no_more_ids, at_end}
use Rattle.ipfix_datagrams.proofs.data_sets.set_ids.Goals as goal

pub returns-in_default : goal.returns-in_default
returns-in_default c = no_more_ids (ids_of c.args.octets.now) c.loop-rest.ids.items c.loop-rest.rest.now c.loop-rest.invariant (rw c.in_default.is at c.in_ok-id.ensures)

pub loop-rest-smaller : goal.loop-rest-smaller
loop-rest-smaller c =
    let s : Set = record { id = c.in-Some.id; body = c.in-Some.field-0-0-1.now } in
    let less = next_set-less c.loop-rest.rest.now s c.in-Some.after.now (rw c.in-Some.is at c.in_ok-id.ensures) in
    omega (arith, less)

pub loop-rest-preserved : goal.loop-rest-preserved
loop-rest-preserved c =
    let s : Set = record { id = c.in-Some.id; body = c.in-Some.field-0-0-1.now } in
    one_more_id (ids_of c.args.octets.now) c.loop-rest.ids.items c.push.new.self.items c.loop-rest.rest.now c.in-Some.after.now s c.loop-rest.invariant (rw c.in-Some.is at c.in_ok-id.ensures) c.in_ok-push.ensures.items

pub returns : goal.returns
returns c =
    let none : length c.loop-rest.rest.now ≡ 0 = search rules in
    at_end (ids_of c.args.octets.now) c.loop-rest.ids.items c.loop-rest.rest.now c.loop-rest.invariant none
