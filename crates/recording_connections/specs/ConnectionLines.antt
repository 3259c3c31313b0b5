-- The lines of connections: those that come while all sessions are at work, and those that begin and end.
use Rattle.std.specs.Prelude.{ℕ, List, [], ◌++◌, Option, Some, None, Result, codes, decimal}
use Rattle.std.specs.Net.Text.{socket_text}
use Rattle.std.specs.declared.net.socket_addr.SocketAddr.{SocketAddr}
use Rattle.report_writing.specs.Lines.{LinesView}
use Rattle.report_writing.specs.OpeningLines.{if_verbose}
use Rattle.report_writing.specs.Writing.{Tells}
use Rattle.report_writing.specs.declared.verbosity.Verbosity.{Verbosity}
use Rattle.recording_connections.specs.declared.shared_counts.RefusedPeers.{RefusedPeers}

unfoldable pub turned_away_line : ℕ → SocketAddr → List ℕ
turned_away_line count last = codes "collectd: refused " ++ (decimal count ++ (codes " connections, last " ++ (socket_text last ++ codes ": all sessions in use\n")))

abbrev pub turned_away_lines : Option RefusedPeers → List ℕ
turned_away_lines None = []
turned_away_lines (Some peers) = turned_away_line peers.count peers.last

unfoldable pub event_line : SocketAddr → List ℕ → List ℕ
event_line peer event = codes "collectd: session " ++ (socket_text peer ++ (codes ": " ++ (event ++ codes "\n")))

-- the lines of a session, between those of its beginning and its end, which are told only where more is asked for
abbrev pub with_ends : Verbosity → SocketAddr → List ℕ → List ℕ
with_ends verbosity peer lines =
    (if_verbose verbosity (event_line peer (codes "connected")) ++ lines) ++ if_verbose verbosity (event_line peer (codes "ended"))

-- such lines were told to a writer
abbrev pub TellsEnds : {W A E : Type 0} → (W → LinesView) → W → W → Result A E → Verbosity → SocketAddr → List ℕ → Type 0
TellsEnds out_lines old new result verbosity peer lines = Tells out_lines old new result (with_ends verbosity peer lines)
