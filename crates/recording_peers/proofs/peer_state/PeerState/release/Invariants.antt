use Rattle.recording_order.specs.Releases.{finish, finish_with}
use Rattle.recording_peers.proofs.Looping.{Loops}
use Rattle.recording_peers.proofs.peer_state.PeerState.release.Given as goal

abbrev pub invariant-loop-round : goal.invariant-loop-round
invariant-loop-round g l = Loops g.F.FileSeries.seen (λ left says r. finish_with says left r) (λ says r. finish says r) l.fn.self l.self l._round l._round-end
