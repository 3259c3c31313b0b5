-- How many sessions of connections are at work, and the peers that came while all were.
use Rattle.std.specs.Prelude.{◌≡◌, ◌+◌, Bool, true, false, Some}
use Rattle.std.specs.declared.net.socket_addr.SocketAddr.{SocketAddr}
use Rattle.recording_connections.specs.Refusals.{one_more_refused}
use Rattle.recording_connections.specs.declared.session_room.SessionRoom.{SessionRoom}

-- a session has begun: one more is at work, and nothing else is counted
abbrev pub IsBegun : SessionRoom → Bool → SessionRoom → Type 0
IsBegun before begins after = (begins ≡ true) × (after ≡ record before { at_work = before.at_work + 1 })

-- a peer was turned away: it is counted, and nothing else is
abbrev pub IsSentAway : SessionRoom → SocketAddr → Bool → SessionRoom → Type 0
IsSentAway before peer begins after =
    (begins ≡ false) × (after ≡ record before { turned_away = Some (one_more_refused before.turned_away peer) })
