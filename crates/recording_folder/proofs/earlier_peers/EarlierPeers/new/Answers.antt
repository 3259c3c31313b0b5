use Rattle.recording_folder.proofs.PeerFiles.{noted_first, none_kept}
use Rattle.recording_folder.proofs.earlier_peers.EarlierPeers.new.Goals as goal

pub returns : goal.returns
returns c = noted_first (record { peers = c.new.result }) (λ q. none_kept (record { peers = c.new.result }) q c.new.ensures.empty)
