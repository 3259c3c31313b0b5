use Rattle.recording_order.specs.Releases.{empty, empty_with}
use Rattle.recording_peers.proofs.Looping.{Loops}
use Rattle.recording_peers.proofs.peer_state.PeerState.empty.Given as goal

abbrev pub invariant-loop-round : goal.invariant-loop-round
invariant-loop-round g l = Loops g.F.FileSeries.seen (λ left says r. empty_with says l.domain left r) (λ says r. empty says l.domain r) l.fn.self l.self l._round l._round-end
