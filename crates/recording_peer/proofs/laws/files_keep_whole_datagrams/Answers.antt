use Rattle.recording_peer.proofs.FilesKeep.{keeps_whole}
use Rattle.recording_peer.proofs.laws.files_keep_whole_datagrams.Goals as goal

pub returns : goal.returns
returns c = λ e. keeps_whole e.fault e.first e.after e.since e.told e.filed e.datagram e.by e.came
