use Rattle.ipfix_message.proofs.Bodies.{records_of_body-found, records_of_body-only}
use Rattle.ipfix_message.proofs.laws.one_body.Goals as goal

pub returns-clause-found : goal.returns-clause-found
returns-clause-found c = records_of_body-found

pub returns-clause-only : goal.returns-clause-only
returns-clause-only c = records_of_body-only
