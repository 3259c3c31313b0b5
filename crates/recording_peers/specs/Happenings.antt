-- What happened to a peer, as events that its datagrams are put into order by (RFC 7011, section 10.3).
use Rattle.std.specs.Prelude.{ℕ, List, [], ◌∷◌, map, flat_map, Result, Ok, Err}
use Rattle.ipfix_wire.specs.declared.header.Header.{Header}
use Rattle.ipfix_message.specs.Domains.{message_header}
use Rattle.ipfix_message.specs.declared.fault.MessageFault.{MessageFault}
use Rattle.recording_order.specs.Arrivals.{Arrival}
use Rattle.recording_order.specs.Releases.{Event, Came, Tick, came}

-- a datagram with this header came at a second
abbrev pub arrival : Header → ℕ → List ℕ → Arrival
arrival h second octets = record { header = h; second = second; octets = octets }

-- a datagram came at a second, or a second began
pub data Happening : Type 0 where
  DatagramCame : List ℕ → ℕ → Happening
  SecondBegan : ℕ → Happening

-- a datagram has its place by its header; one whose header can't be read is refused at once, and changes nothing
abbrev pub arrived : List ℕ → ℕ → Result Header MessageFault → List Event
arrived octets second (Ok h) = Came (arrival h second octets) ∷ []
arrived octets second (Err fault) = []

abbrev pub event_of : Happening → List Event
event_of (DatagramCame octets second) = arrived octets second (message_header octets)
event_of (SecondBegan second) = Tick second ∷ []

abbrev pub events_of : List Happening → List Event
events_of hs = flat_map event_of hs

-- the octets of each
abbrev pub datagrams_of : List Arrival → List (List ℕ)
datagrams_of xs = map (λ a. a.octets) xs

-- the datagrams that came and have a header, as they came
abbrev pub came_with_header : List Happening → List (List ℕ)
came_with_header hs = datagrams_of (came (events_of hs))
