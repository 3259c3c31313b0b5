use Rattle.ipfix_message.proofs.History.{stands-none}
use Rattle.ipfix_message.proofs.domains.Domains.new.Goals as goal

pub returns-clause-empty : goal.returns-clause-empty
returns-clause-empty c = rw c.new.ensures.empty stands-none
