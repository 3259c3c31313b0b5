use Rattle.std.proofs.Common.{◌+◌}
use Rattle.recording_order.specs.Arrivals.{Arrival}
use Rattle.recording_order.specs.Releases.{take_run, take_with}
use Rattle.recording_peers.proofs.Looping.{Loops}
use Rattle.recording_peers.proofs.peer_state.PeerState.offer.Given as goal

abbrev pub invariant-loop-round : goal.invariant-loop-round
invariant-loop-round g l =
    let a : Arrival = record { header = l.header; second = l.second; octets = l.datagram } in
    Loops g.F.FileSeries.seen (λ left says r. take_with says a left r) (λ says r. take_run says a r) l.fn.self l.self l._round (l._round-end + 1)
