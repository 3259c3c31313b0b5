use Rattle.std.proofs.Common.{sym, ap, ◌∙◌}
use Rattle.std.specs.declared.net.socket_addr.SocketAddr.{SocketAddr}
use Rattle.recording_peers.specs.declared.peer_state.PeerState.{PeerState}
use Rattle.recording_peers.specs.declared.peers.Peers.{Peers}
use Rattle.recording_peers.proofs.Tables.{last_is, last_there}
use Rattle.recording_peers.proofs.Recording.{went_on, went_out}
use Rattle.recording_peers.proofs.peers.Peers.go_on.Goals as goal
use Rattle.recording_peers.proofs.peers.Peers.go_on.Goals.{in-Ok, in-Err}

pub returns-in_err-get_mut-clause-none : goal.returns-in_err-get_mut-clause-none
returns-in_err-get_mut-clause-none g c = λ none.
    let es = c.args.self.now.kept.entries in
    let there = last_there es (c.in_ok-peer.peer.now, c.in_ok-peer.field-0-1.now) (last_is es (c.in_ok-peer.peer.now, c.in_ok-peer.field-0-1.now) c.len.ensures.valid.0 (sym c.in_ok-peer.ensures)) in
    let nothing = c.in_err-get_mut.ensures.value in
    absurd cc

pub returns-clause-goes_on : goal.returns-clause-goes_on
returns-clause-goes_on g c =
    let es = c.args.self.now.kept.entries in
    let e : SocketAddr × PeerState g.row.F.Denot = (c.in_ok-peer.peer.now, c.in_ok-peer.field-0-1.now) in
    let last = sym c.in_ok-peer.ensures in
    let found = last_is es e c.len.ensures.valid.0 last in
    let old = c.in_ok-get_mut.field-0.now in
    let new = c.take_turn-refused.new.self in
    elim c.match-answer.branch [
      | in-Ok w ↦ went_on g.F.FileSeries.seen c.args.second c.args.is_over es c.match-answer.self.kept.entries e old new c.take_turn-refused.result c.match-answer.ended
          last found c.in_ok-get_mut.ensures.value w.in-Ok.is c.take_turn-refused.ensures (ap (λ (p : Peers g.row.F.Denot). p.kept.entries) w.self-is) w.ended-is
      | in-Err w ↦ went_out g.F.FileSeries.seen c.args.second c.args.is_over es c.match-answer.self.kept.entries e old new c.take_turn-refused.result w.in-Err.field-0 c.match-answer.ended
          last found c.in_ok-get_mut.ensures.value w.in-Err.is c.take_turn-refused.ensures (w.ended-is ∙ w.pop-ended.ensures.value)
          (ap (λ (p : Peers g.row.F.Denot). p.kept.entries) w.self-is ∙ ap (λ l. l.entries) w.pop-ended.ensures.entries)
    ]
