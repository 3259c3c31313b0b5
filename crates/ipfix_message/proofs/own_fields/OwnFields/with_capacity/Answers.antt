use Rattle.ipfix_message.proofs.SpelledFields.{no_fields, none_spelled}
use Rattle.ipfix_message.proofs.own_fields.OwnFields.with_capacity.Goals as goal

pub invariant_of-result : goal.invariant_of-result
invariant_of-result c = rw (c.in_ok-with_capacity.ensures.items, c.in_ok-with_capacity-2.ensures.items) none_spelled

pub returns : goal.returns
returns c = rw (c.in_ok-with_capacity.ensures.items, c.in_ok-with_capacity-2.ensures.items) (no_fields _).1
