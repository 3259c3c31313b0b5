use Rattle.flow_table.proofs.UsedFlows.{right_end, right_start}
use Rattle.flow_table.proofs.laws.uptimes_are_no_guesses.Goals as goal

pub returns-clause-end : goal.returns-clause-end
returns-clause-end c = λ r untold first rounds time. right_end r first rounds time untold

pub returns-clause-start : goal.returns-clause-start
returns-clause-start c = λ r e ends first rounds time. right_start r e first rounds time ends
