use Rattle.recording_peer.proofs.FilesGive.{one_session}
use Rattle.recording_peer.proofs.laws.files_are_one_session.Goals as goal

pub returns : goal.returns
returns c = λ h. one_session h.first h.after h.since h.filed h.holds h.came
