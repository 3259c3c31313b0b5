use Rattle.std.proofs.Common.{false}
use Rattle.std.proofs.lemmas.Result.{err_from_is_err_and}
use Rattle.recording_order.specs.Arrivals.{Arrival}
use Rattle.recording_order.specs.Releases.{empty}
use Rattle.recording_peers.specs.Calls.{handed_on}
use Rattle.recording_peers.proofs.Growing.{grows-handed_on}
use Rattle.recording_peers.proofs.Following.{follows-both, follows-fault}
use Rattle.recording_peers.proofs.peer_state.PeerState.begin_anew.Goals as goal

pub returns-in_err-empty : goal.returns-in_err-empty
returns-in_err-empty g c =
    let a : Arrival = record { header = c.args.header.now; second = c.args.second; octets = c.args.datagram.now } in
    let e = err_from_is_err_and c.from_residual.result c.from_residual.ensures.1 in
    rw (e.1, e.2)
    (follows-fault g.F.FileSeries.seen (λ says r. empty says a.header.domain r) (handed_on a) false c.args.self.now c.empty.new.self c.in_err-empty.field-0.0 (λ says. grows-handed_on says a) c.in_err-empty.ensures)

pub returns : goal.returns
returns g c =
    let a : Arrival = record { header = c.args.header.now; second = c.args.second; octets = c.args.datagram.now } in
    follows-both g.F.FileSeries.seen (λ says r. empty says a.header.domain r) (handed_on a) false c.args.self.now c.empty.new.self c.hand_on.new.self c.hand_on.result c.in_ok-empty.ensures c.hand_on.ensures
