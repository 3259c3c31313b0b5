use Rattle.flow_table.proofs.MadePlans.{records_fault}
use Rattle.flow_table.proofs.laws.plans_of_records_stay.Goals as goal

pub returns : goal.returns
returns c = λ known length max_spread keys counters. records_fault known length keys counters max_spread
