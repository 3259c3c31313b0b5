use Rattle.ipfix_session.proofs.WholeTexts.{whole_first}
use Rattle.ipfix_session.proofs.laws.whole_octets_are_messages.Goals as goal

pub returns : goal.returns
returns c = λ text. whole_first text
