-- The header of a message (RFC 7011, section 3.1).
use Rattle.std.specs.Prelude.{ℕ, ◌^◌, ◌<◌, ◌≤◌, not, Result, Ok, Err, nat_lt, ◌==◌, if◌then◌else◌, List, ◌++◌}
use Rattle.byteorder.specs.Endian.{big_bytes, big_number}
use Rattle.ipfix_wire.specs.Numbers.{number_at}
use Rattle.ipfix_wire.specs.declared.header.TheConstants.{VERSION, HEADER_LENGTH}
use Rattle.ipfix_wire.specs.declared.header.Header.{Header}
use Rattle.ipfix_wire.specs.declared.fault.WireFault.{WireFault}
use Rattle.ipfix_wire.specs.declared.fault.WireFault.TheVariants.{Version, MessageLength}

-- a message header: version, length, export time, sequence number, observation domain
abbrev pub header_octets : Header → List ℕ
header_octets h = big_bytes 2 VERSION ++ (big_bytes 2 h.length ++ (big_bytes 4 h.export_time ++ (big_bytes 4 h.sequence ++ big_bytes 4 h.domain)))

-- a header that can be read: its length covers the header itself
pub record IsHeader (h : Header) : Type 0 where
  pub length : h.length < 2 ^ 16
  pub covers : HEADER_LENGTH ≤ h.length
  pub export_time : h.export_time < 2 ^ 32
  pub sequence : h.sequence < 2 ^ 32
  pub domain : h.domain < 2 ^ 32

-- the header that a message begins with, or its fault
abbrev pub header_at : List ℕ → Result Header WireFault
header_at w =
    let size = number_at 2 2 w in
    if not (big_number 2 w == VERSION) then Err Version
    else if nat_lt size HEADER_LENGTH then Err MessageLength
    else Ok (record { length = size; export_time = number_at 4 4 w; sequence = number_at 8 4 w; domain = number_at 12 4 w })
