-- The names of sessions.
use Rattle.std.specs.Prelude.{◌≡◌, ◌≢◌, ◌<◌, ◌^◌, ℕ, false, if◌then◌else◌, List, [], ◌∷◌, ◌++◌, codes, decimal, take, drop, bytes_eq, length, get_or}
use Rattle.std.specs.List.{flat_map}
use Rattle.std.specs.Fmt.{digits}
use Rattle.std.specs.declared.net.ip_addr.IpAddr.{IpAddr}
use Rattle.std.specs.declared.net.ip_addr.IpAddr.TheVariants.{V4, V6}
use Rattle.std.specs.declared.net.socket_addr.SocketAddr.{SocketAddr}
use Rattle.std.specs.Net.Addr.{ipv4_octets, ipv6_segments, octets_of}
use Rattle.std.specs.Net.Socket.{socket_ip, socket_port}
use Rattle.std.specs.Net.Text.{ipv4_text}
use Rattle.recording_names.specs.declared.transport.Transport.{Transport}
use Rattle.recording_names.specs.declared.transport.Transport.TheVariants.{Connection, Datagrams}
use Rattle.recording_names.specs.declared.session_names.SessionName.{SessionName}

-- two texts with a hyphen between them
abbrev pub hyphened : List ℕ → List ℕ → List ℕ
hyphened front back = front ++ (codes "-" ++ back)

-- a hyphen and a segment of an IPv6 address, in lower-case hexadecimal with no leading zeros
abbrev pub next_group : ℕ → List ℕ
next_group segment = codes "-" ++ digits 16 false segment

-- its segments with hyphens between them
abbrev pub groups : List ℕ → List ℕ
groups [] = []
groups (segment ∷ segments) = digits 16 false segment ++ flat_map next_group segments

-- an address with no colon in it: of IPv4 its usual form, also where it is mapped into IPv6
abbrev pub address_name : IpAddr → List ℕ
address_name (V4 a) = ipv4_text (ipv4_octets a)
address_name (V6 a) =
    if bytes_eq (take 6 (ipv6_segments a)) (0 ∷ 0 ∷ 0 ∷ 0 ∷ 0 ∷ 0xffff ∷ [])
    then ipv4_text (octets_of (drop 6 (ipv6_segments a)))
    else groups (ipv6_segments a)

-- a session's number: after a letter, where its messages come in datagrams
abbrev pub number_text : Transport → ℕ → List ℕ
number_text Connection number = decimal number
number_text Datagrams number = codes "u" ++ decimal number

-- the text is that of such a number
abbrev pub IsNumberText : List ℕ → Transport → ℕ → Type 0
IsNumberText text transport number = (number < 2 ^ 64) × (text ≡ number_text transport number)

-- an address, a port and a session's number
abbrev pub session_text : List ℕ → ℕ → Transport → ℕ → List ℕ
session_text address port transport number = hyphened address (hyphened (decimal port) (number_text transport number))

-- what such a text is made of
pub record SessionParts : Type 0 where
  pub address : List ℕ
  pub port : ℕ
  pub transport : Transport
  pub number : ℕ

abbrev pub text_of : SessionParts → List ℕ
text_of s = session_text s.address s.port s.transport s.number

-- a port has 16 bits, and a number 64
abbrev pub AreInRange : SessionParts → Type 0
AreInRange s = (s.port < 2 ^ 16) × (s.number < 2 ^ 64)

-- what is read of one
abbrev pub parts_of : SessionName → SessionParts
parts_of told = record { address = told.address.now; port = told.port; transport = told.transport; number = told.number }

-- an address and a port before the last hyphen, and a number after it
abbrev pub AreParts : List ℕ → List ℕ → SessionParts → Type 0
AreParts peer number s = (peer ≡ hyphened s.address (decimal s.port)) × (number ≡ number_text s.transport s.number)

-- the name of a session: its peer's address and port, and its number
abbrev pub name_of_session : SocketAddr → Transport → ℕ → List ℕ
name_of_session peer transport number = session_text (address_name (socket_ip peer)) (socket_port peer) transport number

-- there is no hyphen in a text
abbrev pub HasNoHyphen : List ℕ → Type 0
HasNoHyphen text = (i : ℕ) → i < length text → get_or text i 0 ≢ 45
