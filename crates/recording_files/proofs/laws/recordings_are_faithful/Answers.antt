use Rattle.recording_files.proofs.Together.{is_faithful}
use Rattle.recording_files.proofs.laws.recordings_are_faithful.Goals as goal

pub returns : goal.returns
returns c = is_faithful
