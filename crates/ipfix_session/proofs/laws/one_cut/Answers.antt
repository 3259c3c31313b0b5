use Rattle.ipfix_wire.proofs.Longest.{longest_from, longest_only}
use Rattle.ipfix_session.specs.MessageStream.{SpellsMessage, next_message}
use Rattle.ipfix_session.proofs.Cut.{messages_read, messages_shrink}
use Rattle.ipfix_session.proofs.laws.one_cut.Goals as goal

pub returns-clause-found : goal.returns-clause-found
returns-clause-found c = λ text fits. longest_from SpellsMessage next_message messages_read messages_shrink text fits

pub returns-clause-only : goal.returns-clause-only
returns-clause-only c = λ text parts fits longest. longest_only SpellsMessage next_message messages_read messages_shrink parts.items parts.rest text fits longest
