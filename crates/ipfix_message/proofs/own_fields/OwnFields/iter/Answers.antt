use Rattle.ipfix_message.proofs.SpelledFields.{spelled-begins}
use Rattle.ipfix_message.proofs.own_fields.OwnFields.iter.Goals as goal

pub new-requires : goal.new-requires
new-requires c = rw (c.as_slice.ensures.value, c.as_slice-2.ensures.value) (spelled-begins _ _ _ c.self.invariant)
