-- Which peers have a session, and the peers that were refused and are not reported yet.
use Rattle.std.specs.Prelude.{◌≡◌, ℕ, zero, suc, List, [], ◌++◌, Option, Some, None}
use Rattle.std.specs.Net.Socket.{socket_ip}
use Rattle.std.specs.declared.net.socket_addr.SocketAddr.{SocketAddr}
use Rattle.ipfix_session.specs.Sources.{one_more}
use Rattle.network_prefixes.specs.Peers.{LetsIn}
use Rattle.network_prefixes.specs.declared.peer_filter.PeerFilter.{PeerFilter}
use Rattle.recording_lines.specs.RecordLines.{not_accepted_line, refused_line}
use Rattle.recording_connections.specs.ConnectionLines.{turned_away_lines}
use Rattle.recording_connections.specs.declared.shared_counts.RefusedPeers.{RefusedPeers}
use Rattle.recording_connections.specs.declared.shared_counts.SessionNumber.{SessionNumber}
use Rattle.recording_connections.specs.declared.shared_counts.SharedCounts.{SharedCounts}

-- no session has begun, and nobody was refused
abbrev pub none_unserved : SharedCounts
none_unserved = record { sessions = 0; refused = None; not_accepted = 0 }

abbrev pub refused_count : Option RefusedPeers → ℕ
refused_count None = 0
refused_count (Some refused) = refused.count

-- one more, which is the last; the count stops at the greatest number of 64 bits
abbrev pub one_more_refused : Option RefusedPeers → SocketAddr → RefusedPeers
one_more_refused refused peer = record { count = one_more (refused_count refused); last = peer }

-- the filter lets the peer in
abbrev pub MaySend : PeerFilter → SocketAddr → Type 0
MaySend filter peer = LetsIn filter (socket_ip peer)

-- a session's number is one more than the last
abbrev pub IsNext : SharedCounts → SessionNumber → Type 0
IsNext before session = session.number ≡ one_more before.sessions

-- a session has begun: its number is the next one, and nothing else is counted
abbrev pub IsAdmitted : SharedCounts → Option SessionNumber → SharedCounts → Type 0
IsAdmitted before (Some session) after =
    IsNext before session × (after ≡ record before { sessions = one_more before.sessions })
IsAdmitted before None after = ⊥

-- a peer was refused: it has no number, is counted, and nothing else is
abbrev pub IsTurnedAway : SharedCounts → SocketAddr → Option SessionNumber → SharedCounts → Type 0
IsTurnedAway before peer number after =
    (number ≡ None) × (after ≡ record before { refused = Some (one_more_refused before.refused peer) })

-- ---- the lines of peers that have no session

abbrev pub refused_lines : Option RefusedPeers → List ℕ
refused_lines None = []
refused_lines (Some refused) = refused_line refused.count refused.last

abbrev pub not_accepted_lines : ℕ → List ℕ
not_accepted_lines zero = []
not_accepted_lines (suc n) = not_accepted_line (suc n)

abbrev pub unserved_lines : Option RefusedPeers → Option RefusedPeers → ℕ → List ℕ
unserved_lines refused turned_away not_accepted = refused_lines refused ++ (turned_away_lines turned_away ++ not_accepted_lines not_accepted)
