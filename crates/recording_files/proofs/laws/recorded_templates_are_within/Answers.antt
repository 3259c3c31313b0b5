use Rattle.std.proofs.Common.{Some}
use Rattle.recording_files.specs.Faithful.{all_given}
use Rattle.recording_files.specs.Sessions.{parts}
use Rattle.recording_files.proofs.Limited.{prefix_fits}
use Rattle.recording_files.proofs.laws.recorded_templates_are_within.Goals as goal

pub returns : goal.returns
returns c = λ limit text cut_off first after h. prefix_fits (Some limit) text (all_given (parts h.finished h.last)) h.given
