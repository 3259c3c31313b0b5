use Rattle.flow_link.proofs.ParcelLists.{records_in-whole, has_last-whole, last_ends_whole, whole_session}
use Rattle.flow_link.proofs.laws.whole_sessions.Goals as goal

pub returns-clause-records : goal.returns-clause-records
returns-clause-records c = records_in-whole

pub returns-clause-last : goal.returns-clause-last
returns-clause-last c = has_last-whole

pub returns-clause-ends : goal.returns-clause-ends
returns-clause-ends c = last_ends_whole

pub returns-clause-only : goal.returns-clause-only
returns-clause-only c = whole_session
