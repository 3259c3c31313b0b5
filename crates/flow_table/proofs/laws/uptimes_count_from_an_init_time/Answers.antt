use Rattle.flow_table.proofs.UsedFlows.{start_without, end_without}
use Rattle.flow_table.proofs.laws.uptimes_count_from_an_init_time.Goals as goal

pub returns-clause-start : goal.returns-clause-start
returns-clause-start c = start_without

pub returns-clause-end : goal.returns-clause-end
returns-clause-end c = end_without
