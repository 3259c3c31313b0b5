-- The names of the files of peers.
use Rattle.std.specs.Prelude.{ℕ}
use Rattle.std.specs.declared.net.socket_addr.SocketAddr.{SocketAddr}
use Rattle.recording_folder.specs.FiledSessions.{IsNamed}
use Rattle.recording_folder.specs.declared.filed_session.FiledSession.{FiledSession}
use Rattle.recording_names.specs.declared.transport.Transport.TheVariants.{Datagrams}

-- the files of a session have the name of a peer that sends datagrams, and this number
abbrev pub NamesPeer : FiledSession → SocketAddr → ℕ → Type 0
NamesPeer session peer number = IsNamed session peer Datagrams number
