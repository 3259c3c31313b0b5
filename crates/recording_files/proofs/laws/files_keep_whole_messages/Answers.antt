use Rattle.recording_files.specs.Sessions.{IsTold}
use Rattle.recording_files.proofs.FilesGive.{files_keep}
use Rattle.recording_files.proofs.laws.files_keep_whole_messages.Goals as goal

pub returns : goal.returns
returns c = λ s. files_keep (IsTold s.session) s.progress s.after s.seen.start s.now s.holds s.seen.seen s.seen.none
