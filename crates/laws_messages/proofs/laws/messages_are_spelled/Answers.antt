use Rattle.laws_messages.proofs.Messages.{message-found, message-only}
use Rattle.laws_messages.proofs.laws.messages_are_spelled.Goals as goal

pub returns-clause-found : goal.returns-clause-found
returns-clause-found c = message-found

pub returns-clause-only : goal.returns-clause-only
returns-clause-only c = message-only
