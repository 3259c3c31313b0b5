use Rattle.std.proofs.Common.{[], refl, ◌∙◌}
use Rattle.recording_peer.proofs.Listed.{none_barred, barred_same, listed}
use Rattle.recording_peer.proofs.Lateness.{times_same}
use Rattle.recording_peer.proofs.Taking.{peer_first}
use Rattle.recording_peer.proofs.peer_recorder.PeerRecorder.new.Goals as goal

pub returns-clause-peer : goal.returns-clause-peer
returns-clause-peer c = λ files empty. peer_first files _ empty refl c.new.ensures c.new-3.ensures refl c.new-4.ensures c.new-5.ensures.items (listed c.new-2.result.withdrawn [] c.new-2.ensures.keeps.withdrawn) c.new-2.ensures.keeps.fits (none_barred c.new-2.result c.new-2.ensures.barred) (times_same c.new-2.result ∙ (λ i domain id. c.new-2.ensures.times domain id i)) c.args.earlier refl

pub returns-clause-barred : goal.returns-clause-barred
returns-clause-barred c = λ domain. barred_same c.new-2.result domain ∙ c.new-2.ensures.barred domain
