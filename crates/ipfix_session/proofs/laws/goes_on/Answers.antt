use Rattle.std.proofs.Common.{[]}
use Rattle.ipfix_session.proofs.Giving.{records_of-prefix, gives_after-closed_stays, gives_after-open}
use Rattle.ipfix_session.proofs.laws.goes_on.Goals as goal

pub returns-clause-records : goal.returns-clause-records
returns-clause-records c = records_of-prefix

pub returns-clause-fault : goal.returns-clause-fault
returns-clause-fault c = gives_after-closed_stays []

pub returns-clause-rest : goal.returns-clause-rest
returns-clause-rest c = gives_after-open []
