use Rattle.ipfix_message.proofs.RecordOctets.{message_has}
use Rattle.ipfix_message.proofs.laws.records_of_octets.Goals as goal

pub returns : goal.returns
returns c = message_has
