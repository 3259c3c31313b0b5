use Rattle.recording_files.proofs.FilesGive.{told_again}
use Rattle.recording_files.proofs.laws.options_are_told_again.Goals as goal

pub returns : goal.returns
returns c = told_again
