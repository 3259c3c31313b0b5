-- What is told when a run of the recorder begins.
use Rattle.std.specs.Prelude.{◌≡◌, ℕ, List, [], ◌++◌, Option, Some, None, codes, decimal, option_map}
use Rattle.std.specs.Int.NonZero.{non_zero_usize_get}
use Rattle.std.specs.Net.Text.{socket_text}
use Rattle.std.specs.declared.net.socket_addr.SocketAddr.{SocketAddr}
use Rattle.recording_connections.specs.declared.recorder_run.RecordOrder.{RecordOrder}
use Rattle.recording_datagrams.specs.declared.datagram_limits.DatagramLimits.{DatagramLimits}
use Rattle.command_record.specs.declared.beginning.Intake.{Intake}
use Rattle.command_record.specs.declared.system.Sockets.{Sockets}

-- ---- what a run takes

-- of connections and of datagrams only what is taken, as it is asked for, and what the templates of each session may count; which address the system gave to a socket no contract sees
pub record IsIntake (sockets : Sockets) (order : RecordOrder) (limits : DatagramLimits) (i : Intake) : Type 0 where
  pub listen : sockets.listener ≡ None → i.listen ≡ None
  pub udp : sockets.socket ≡ None → i.udp ≡ None
  pub sessions : i.sessions ≡ option_map (λ _. order.sessions) sockets.listener
  pub peers : i.peers ≡ option_map (λ _. non_zero_usize_get limits.most) sockets.socket
  pub templates : i.templates ≡ order.templates
  pub buffer : i.buffer ≡ option_map (λ socket. socket.buffer) sockets.socket

-- ---- the first line

unfoldable pub folder_text : List ℕ → List ℕ
folder_text folder = codes "collectd: recording: " ++ folder

unfoldable pub address_text : List ℕ → SocketAddr → List ℕ
address_text word address = codes " " ++ (word ++ (codes " " ++ socket_text address))

unfoldable pub most_text : List ℕ → ℕ → List ℕ
most_text word most = codes " " ++ (word ++ (codes " " ++ decimal most))

-- what isn't in use has no part
abbrev pub address_part : List ℕ → Option SocketAddr → List ℕ
address_part word None = []
address_part word (Some address) = address_text word address

abbrev pub most_part : List ℕ → Option ℕ → List ℕ
most_part word None = []
most_part word (Some most) = most_text word most

abbrev pub addresses_text : Option SocketAddr → Option SocketAddr → List ℕ
addresses_text listen udp = address_part (codes "listen") listen ++ address_part (codes "udp") udp

-- what the templates of a session may count, and how many octets of datagrams the system keeps until they are taken
abbrev pub room_texts : Intake → List ℕ
room_texts i = most_text (codes "templates") i.templates ++ (most_part (codes "buffer") i.buffer ++ codes "\n")

-- how many peers that send datagrams, and those
abbrev pub datagram_texts : Intake → List ℕ
datagram_texts i = most_part (codes "peers") i.peers ++ room_texts i

abbrev pub most_texts : Intake → List ℕ
most_texts i = most_part (codes "sessions") i.sessions ++ datagram_texts i

abbrev pub intake_texts : Intake → List ℕ
intake_texts i = addresses_text i.listen i.udp ++ most_texts i

abbrev pub beginning_line : List ℕ → Intake → List ℕ
beginning_line folder intake = folder_text folder ++ intake_texts intake

-- ---- what is told of a run that begins with no address

abbrev pub no_address_text : List ℕ
no_address_text = codes "error: one of these is required, or both:\n  --listen <ADDR>\n  --udp <ADDR>\n\nFor more information, try '--help'.\n"
