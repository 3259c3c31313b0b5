-- Datagrams that the system dropped, since the buffer of their socket was full.
use Rattle.std.specs.Prelude.{◌-◌, ℕ, zero, suc, List, []}
use Rattle.std.specs.declared.net.socket_addr.SocketAddr.{SocketAddr}
use Rattle.recording_lines.specs.RecordLines.{system_drops_line}
use Rattle.recording_datagrams.specs.declared.socket_drops.SocketDrops.{SocketDrops}

-- a line if there are any
abbrev pub lines_of_drops : SocketAddr → ℕ → List ℕ
lines_of_drops address zero = []
lines_of_drops address (suc n) = system_drops_line address (suc n)

-- of those that a socket dropped since that was told, where it dropped these in all
abbrev pub drop_lines : SocketDrops → ℕ → List ℕ
drop_lines drops dropped = lines_of_drops drops.address (dropped - drops.dropped)
