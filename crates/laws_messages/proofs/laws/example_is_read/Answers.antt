use Rattle.laws_messages.proofs.WorkedMessage as worked
use Rattle.laws_messages.proofs.laws.example_is_read.Goals as goal

pub returns : goal.returns
returns c = worked.example_is_read
