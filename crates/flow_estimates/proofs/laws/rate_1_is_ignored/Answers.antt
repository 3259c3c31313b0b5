use Rattle.flow_estimates.proofs.Wholes.{all_selected}
use Rattle.flow_estimates.proofs.laws.rate_1_is_ignored.Goals as goal

pub returns-clause-all : goal.returns-clause-all
returns-clause-all c = λ n rate same. all_selected n rate.selected rate.population same
