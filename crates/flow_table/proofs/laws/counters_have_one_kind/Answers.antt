use Rattle.flow_table.proofs.CounterKinds.{counters_of_plan}
use Rattle.flow_table.proofs.laws.counters_have_one_kind.Goals as goal

pub returns : goal.returns
returns c = counters_of_plan
