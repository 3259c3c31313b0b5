use Rattle.recording_peer.proofs.FilesGive.{files_give}
use Rattle.recording_peer.proofs.laws.files_give_the_records_over_udp.Goals as goal

pub returns : goal.returns
returns c = λ h. files_give h.first h.after h.since h.filed h.holds h.came
