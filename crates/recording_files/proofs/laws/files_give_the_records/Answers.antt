use Rattle.recording_files.specs.Sessions.{IsTold}
use Rattle.recording_files.proofs.FilesGive.{files_give}
use Rattle.recording_files.proofs.laws.files_give_the_records.Goals as goal

pub returns : goal.returns
returns c = λ s. files_give (IsTold s.session) s.progress s.after s.seen.start s.now s.holds s.seen.seen s.seen.none
