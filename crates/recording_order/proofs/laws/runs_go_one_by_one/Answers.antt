use Rattle.recording_order.proofs.Steps.{take-first, settle-on, empty-on, finish-on}
use Rattle.recording_order.proofs.Ticks.{tick-on}
use Rattle.recording_order.proofs.laws.runs_go_one_by_one.Goals as goal

pub returns-clause-first : goal.returns-clause-first
returns-clause-first c = take-first

pub returns-clause-settled : goal.returns-clause-settled
returns-clause-settled c = settle-on

pub returns-clause-emptied : goal.returns-clause-emptied
returns-clause-emptied c = empty-on

pub returns-clause-finished : goal.returns-clause-finished
returns-clause-finished c = finish-on

pub returns-clause-ticked : goal.returns-clause-ticked
returns-clause-ticked c = tick-on
