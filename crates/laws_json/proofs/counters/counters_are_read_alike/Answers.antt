use Rattle.flow_table.proofs.CounterKinds.{counters_of_plan}
use Rattle.laws_json.proofs.ReadAlike.{read_alike}
use Rattle.laws_json.proofs.counters.counters_are_read_alike.Goals as goal

pub returns : goal.returns
returns c = λ known plan good none. read_alike known plan.choices.totals plan.counters (counters_of_plan known plan good none)
