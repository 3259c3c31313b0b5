use Rattle.flow_table.proofs.UsedFlows.{start_stays, end_stays}
use Rattle.flow_table.proofs.laws.basic_times_stay.Goals as goal

pub returns-clause-start : goal.returns-clause-start
returns-clause-start c = start_stays

pub returns-clause-end : goal.returns-clause-end
returns-clause-end c = end_stays
