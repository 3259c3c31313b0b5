use Rattle.flow_table.proofs.MadePlans.{kept_fault, kept_kinds}
use Rattle.flow_table.proofs.laws.built_in_plans_stay.Goals as goal

pub returns-clause-no_fault : goal.returns-clause-no_fault
returns-clause-no_fault c = λ known plan. kept_fault known plan.choices plan.length plan.keys plan.counters plan.max_spread

pub returns-clause-same : goal.returns-clause-same
returns-clause-same c = λ known plan. kept_kinds known plan.choices plan.length plan.keys plan.counters plan.max_spread
