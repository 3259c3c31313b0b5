use Rattle.recording_order.specs.Releases.{tick, tick_with}
use Rattle.recording_peers.proofs.Looping.{Loops}
use Rattle.recording_peers.proofs.peer_state.PeerState.tick.Given as goal

abbrev pub invariant-loop-round : goal.invariant-loop-round
invariant-loop-round g l = Loops g.F.FileSeries.seen (λ left says r. tick_with says l.second left r) (λ says r. tick says l.second r) l.fn.self l.self l._round l._round-end
