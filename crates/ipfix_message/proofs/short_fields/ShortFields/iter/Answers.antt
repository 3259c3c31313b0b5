use Rattle.ipfix_message.proofs.SpelledFields.{spelled-begins}
use Rattle.ipfix_message.proofs.short_fields.ShortFields.iter.Goals as goal

pub new-requires : goal.new-requires
new-requires c = spelled-begins _ _ _ c.self.invariant.2
