use Rattle.std.proofs.Common.{false}
use Rattle.std.proofs.lemmas.Result.{err_from_is_err_and}
use Rattle.recording_order.specs.Arrivals.{Arrival}
use Rattle.recording_order.specs.Releases.{settle, take_run}
use Rattle.recording_peers.proofs.Growing.{grows-settle}
use Rattle.recording_peers.proofs.Following.{follows-both, follows-fault}
use Rattle.recording_peers.proofs.peer_state.PeerState.take_in_order.Goals as goal

pub returns-in_err-offer : goal.returns-in_err-offer
returns-in_err-offer g c =
    let a : Arrival = record { header = c.args.header.now; second = c.args.second; octets = c.args.datagram.now } in
    let e = err_from_is_err_and c.from_residual.result c.from_residual.ensures.1 in
    rw (e.1, e.2)
    (follows-fault g.F.FileSeries.seen (λ says r. take_run says a r) (λ says r. settle says a.header.domain a.second r) false c.args.self.now c.offer.new.self c.in_err-offer.field-0.0 (λ says. grows-settle says a.header.domain a.second) c.in_err-offer.ensures)

pub returns : goal.returns
returns g c =
    let a : Arrival = record { header = c.args.header.now; second = c.args.second; octets = c.args.datagram.now } in
    follows-both g.F.FileSeries.seen (λ says r. take_run says a r) (λ says r. settle says a.header.domain a.second r) false c.args.self.now c.offer.new.self c.settle.new.self c.settle.result c.in_ok-offer.ensures c.settle.ensures
