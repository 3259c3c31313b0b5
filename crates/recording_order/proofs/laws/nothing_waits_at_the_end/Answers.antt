use Rattle.std.proofs.Common.{◌∙◌}
use Rattle.std.proofs.lemmas.List.Sums.{sum_by-append}
use Rattle.recording_order.specs.Releases.{released_of, run_of}
use Rattle.recording_order.proofs.Ends.{finish-none, all_released}
use Rattle.recording_order.proofs.laws.nothing_waits_at_the_end.Goals as goal

pub returns-clause-waiting : goal.returns-clause-waiting
returns-clause-waiting c = λ course. finish-none course.says (run_of course)

pub returns-clause-each_once : goal.returns-clause-each_once
returns-clause-each_once c = λ course weight.
    sum_by-append weight (released_of course) (run_of course).doubled ∙ all_released weight course.says course.seconds course.events
