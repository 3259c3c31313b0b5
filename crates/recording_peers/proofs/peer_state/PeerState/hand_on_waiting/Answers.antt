use Rattle.recording_peers.proofs.peer_state.PeerState.hand_on_waiting.Goals as goal

pub returns : goal.returns
returns g c = rw (c.header.ensures, c.second.ensures, c.octets.ensures) at c.hand_on.ensures
