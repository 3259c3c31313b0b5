use Rattle.recording_order.specs.Releases.{settle, settle_with}
use Rattle.recording_peers.proofs.Looping.{Loops}
use Rattle.recording_peers.proofs.peer_state.PeerState.settle.Given as goal

abbrev pub invariant-loop-round : goal.invariant-loop-round
invariant-loop-round g l = Loops g.F.FileSeries.seen (λ left says r. settle_with says l.domain l.second left r) (λ says r. settle says l.domain l.second r) l.fn.self l.self l._round l._round-end
