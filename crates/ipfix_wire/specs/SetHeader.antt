-- The header of a set (RFC 7011, section 3.3.2).
use Rattle.std.specs.Prelude.{◌≡◌, ℕ, ◌+◌, ◌-◌, ◌^◌, ◌<◌, ◌≤◌, ◌⊎◌, Result, Ok, Err, nat_lt, if◌then◌else◌, List, ◌++◌, length, take}
use Rattle.byteorder.specs.Endian.{big_bytes, big_number}
use Rattle.ipfix_wire.specs.Numbers.{number_at}
use Rattle.ipfix_wire.specs.declared.set.TheConstants.{SET_HEADER_LENGTH}
use Rattle.ipfix_wire.specs.declared.set.SetSpan.{SetSpan}
use Rattle.ipfix_wire.specs.declared.fault.WireFault.{WireFault}
use Rattle.ipfix_wire.specs.declared.fault.WireFault.TheVariants as faults

-- a set header: the id, and the length of the set, which counts the header too
abbrev pub set_octets : ℕ → ℕ → List ℕ
set_octets id body = big_bytes 2 id ++ big_bytes 2 (SET_HEADER_LENGTH + body)

-- w begins with the header of this set, and the set's body follows it
abbrev pub BeginsWithSet : List ℕ → SetSpan → Type 0
BeginsWithSet w s =
    (s.id < 2 ^ 16) × (SET_HEADER_LENGTH + s.body < 2 ^ 16) × (SET_HEADER_LENGTH + s.body ≤ length w)
    × (take SET_HEADER_LENGTH w ≡ set_octets s.id s.body)

-- w begins with a set header whose length is less than that of the header, or more than there is
abbrev pub HasWrongSetLength : List ℕ → Type 0
HasWrongSetLength w =
    (SET_HEADER_LENGTH ≤ length w) × ((number_at 2 2 w < SET_HEADER_LENGTH) ⊎ (length w < number_at 2 2 w))

-- the set that the octets begin with, or its fault
abbrev pub set_at : List ℕ → Result SetSpan WireFault
set_at w =
    let size = number_at 2 2 w in
    if nat_lt (length w) SET_HEADER_LENGTH then Err faults.SetHeader
    else if nat_lt size SET_HEADER_LENGTH then Err faults.SetLength
    else if nat_lt (length w) size then Err faults.SetLength
    else Ok (record { id = big_number 2 w; body = size - SET_HEADER_LENGTH })
