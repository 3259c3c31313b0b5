use Rattle.std.proofs.Common.{◌∙◌}
use Rattle.recording_order.specs.Releases.{run_of}
use Rattle.recording_order.proofs.Bags.{all_that_came, all-bag}
use Rattle.recording_order.proofs.laws.each_once.Goals as goal

pub returns : goal.returns
returns c = λ course weight. all-bag weight (run_of course) ∙ all_that_came weight course.says course.seconds course.events
