use Rattle.recording_peers.proofs.TakingTurns.{turn_taken}
use Rattle.recording_peers.proofs.peer_state.PeerState.take_turn.Goals as goal

pub returns : goal.returns
returns g c =
    turn_taken g.F.FileSeries.seen c.args.self.now c.go_on-answer.new.self c.take_orders-orders.new.self c.take_resumed-resumed.new.self c.args.second c.args.is_over _
    c.take-refused.ensures.value (rw c.take-refused.ensures.after at c.go_on-answer.ensures) c.take_orders-orders.ensures.counts c.take_orders-orders.ensures.others
    c.take_resumed-resumed.ensures.resumed c.take_resumed-resumed.ensures.others
