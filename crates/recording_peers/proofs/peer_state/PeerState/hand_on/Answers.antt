use Rattle.std.proofs.Common.{ap, ◌∙◌}
use Rattle.std.proofs.lemmas.Result.{err_from_is_err_and}
use Rattle.recording_order.specs.Arrivals.{Arrival}
use Rattle.recording_order.specs.Windows.{after_writing}
use Rattle.recording_peers.proofs.HandingOn.{follows-recorded, follows-refused, follows-too_much, follows-ignored, follows-failed, follows-unnoted}
use Rattle.recording_peers.proofs.peer_state.PeerState.hand_on.Goals as goal

pub returns-in_err-count : goal.returns-in_err-count
returns-in_err-count g c =
    let a : Arrival = record { header = c.args.header.now; second = c.args.second; octets = c.args.datagram.now } in
    let e = err_from_is_err_and c.from_residual.result c.from_residual.ensures.1 in
    rw (e.1, e.2)
    (follows-failed g.F.FileSeries.seen c.args.self.now a c.args.now c.in_err-count.field-0.0 c.take.new.self c.take.new.files c.in_err-count.ensures.answers)

pub returns-in-Ok : goal.returns-in-Ok
returns-in-Ok g c =
    let a : Arrival = record { header = c.args.header.now; second = c.args.second; octets = c.args.datagram.now } in
    follows-recorded g.F.FileSeries.seen c.args.self.now a c.args.now c.in-Recorded.count c.take.new.self c.take.new.files c.note.new.self
    (rw c.in-Recorded.is at c.in_ok-count.ensures.answers)
    (c.in-Ok.ensures.ok ∙ ap (after_writing c.args.self.now.window a) c.counts_of-counts.ensures)

pub returns-in-Err : goal.returns-in-Err
returns-in-Err g c =
    let a : Arrival = record { header = c.args.header.now; second = c.args.second; octets = c.args.datagram.now } in
    follows-unnoted g.F.FileSeries.seen c.args.self.now a c.args.now c.in-Recorded.count c.take.new.self c.end.new.self c.take.new.files c.note.new.self c.end.result
    (rw c.in-Recorded.is at c.in_ok-count.ensures.answers)
    (record { ended = c.end.ensures.ended; stopped = c.end.ensures.stopped })

pub returns-in-Refused : goal.returns-in-Refused
returns-in-Refused g c =
    let a : Arrival = record { header = c.args.header.now; second = c.args.second; octets = c.args.datagram.now } in
    rw c.one_more.ensures
    (follows-refused g.F.FileSeries.seen c.args.self.now a c.args.now c.in-Refused.fault c.take.new.self c.take.new.files
    (rw c.in-Refused.is at c.in_ok-count.ensures.answers))

pub returns-in-Ignored : goal.returns-in-Ignored
returns-in-Ignored g c =
    let a : Arrival = record { header = c.args.header.now; second = c.args.second; octets = c.args.datagram.now } in
    follows-ignored g.F.FileSeries.seen c.args.self.now a c.args.now c.take.new.self c.take.new.files
    (rw c.in-Ignored.is at c.in_ok-count.ensures.answers)

pub returns-in-TooMuch : goal.returns-in-TooMuch
returns-in-TooMuch g c =
    let a : Arrival = record { header = c.args.header.now; second = c.args.second; octets = c.args.datagram.now } in
    rw c.one_more-in-TooMuch.ensures
    (follows-too_much g.F.FileSeries.seen c.args.self.now a c.args.now c.take.new.self c.take.new.files
    (rw c.in-TooMuch.is at c.in_ok-count.ensures.answers))
