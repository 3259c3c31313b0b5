use Rattle.recording_order.proofs.Asked.{run-asks, step-asks, finish-asks}
use Rattle.recording_order.proofs.laws.only_what_was_handed_on_is_asked.Goals as goal

pub returns-clause-run : goal.returns-clause-run
returns-clause-run c = λ seconds es says tells. run-asks says tells seconds es

pub returns-clause-step : goal.returns-clause-step
returns-clause-step c = λ r e says tells. (step-asks e).same says tells r

pub returns-clause-finish : goal.returns-clause-finish
returns-clause-finish c = λ r says tells. finish-asks.same says tells r

pub returns-clause-stepped : goal.returns-clause-stepped
returns-clause-stepped c = λ says r e. (step-asks e).goes_on says r

pub returns-clause-finished : goal.returns-clause-finished
returns-clause-finished c = finish-asks.goes_on
