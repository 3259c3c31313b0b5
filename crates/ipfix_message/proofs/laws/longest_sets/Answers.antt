use Rattle.ipfix_message.proofs.MessageSets.{sets_of-found, sets_of-only, next_set-left}
use Rattle.ipfix_message.proofs.laws.longest_sets.Goals as goal

pub returns-clause-found : goal.returns-clause-found
returns-clause-found c = sets_of-found

pub returns-clause-only : goal.returns-clause-only
returns-clause-only c = sets_of-only

pub returns-clause-left : goal.returns-clause-left
returns-clause-left c = next_set-left
