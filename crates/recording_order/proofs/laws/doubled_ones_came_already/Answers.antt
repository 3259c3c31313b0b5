use Rattle.recording_order.specs.Releases.{run_of}
use Rattle.recording_order.proofs.Doubles.{all-known, doubled-data, doubled-same, run-known}
use Rattle.recording_order.proofs.laws.doubled_ones_came_already.Goals as goal

pub returns-clause-data : goal.returns-clause-data
returns-clause-data c = doubled-data

pub returns-clause-same : goal.returns-clause-same
returns-clause-same c = doubled-same

pub returns-clause-last : goal.returns-clause-last
returns-clause-last c = λ course. all-known (run_of course).window.last (run_of course).handed_on (run-known course.says course.seconds course.events)
