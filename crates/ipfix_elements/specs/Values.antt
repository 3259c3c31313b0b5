-- The values of fields, by kind (RFC 7011, section 6).
use Rattle.std.specs.Prelude.{ℕ, ◌==◌, ◌&&◌, Bool, false, nat_lt, nat_le, List, length, Option, Some, None, option_map, if◌then◌else◌}
use Rattle.byteorder.specs.Endian.{big_number}
use Rattle.ipfix_elements.specs.declared.kind.Width.{Width}
use Rattle.ipfix_elements.specs.declared.kind.Width.TheVariants.{One, Two, Four, Eight}
use Rattle.ipfix_elements.specs.declared.kind.Kind.{Kind}
use Rattle.ipfix_elements.specs.declared.kind.Kind.TheVariants as kinds
use Rattle.ipfix_elements.specs.declared.cell.Cell.{Cell}
use Rattle.ipfix_elements.specs.declared.cell.Cell.TheVariants as cells

-- the octets of an unsigned number at its full width
abbrev pub octets_of : Width → ℕ
octets_of One = 1
octets_of Two = 2
octets_of Four = 4
octets_of Eight = 8

-- whether n octets are a number of the kind: an unsigned number may be in fewer than its full
-- width (section 6.2), a time may not (sections 6.1.7 and 6.1.8)
abbrev pub is_number_length : Kind → ℕ → Bool
is_number_length (kinds.Unsigned width) n = nat_lt 0 n && nat_le n (octets_of width)
is_number_length kinds.Seconds n = n == 4
is_number_length kinds.Millis n = n == 8
is_number_length kinds.Ipv4 n = false
is_number_length kinds.Ipv6 n = false
is_number_length kinds.Mac n = false
is_number_length kinds.Octets n = false

-- the number that octets are, by kind: the highest octet first (section 6.1.1)
abbrev pub number_in : Kind → List ℕ → Option ℕ
number_in kind octets = if is_number_length kind (length octets) then Some (big_number (length octets) octets) else None

-- the cell that octets are, by kind: an address has all of its octets (section 6.1.2)
abbrev pub cell_in : Kind → List ℕ → Option Cell
cell_in kinds.Ipv4 octets = if length octets == 4 then Some (cells.Ipv4 octets) else None
cell_in kinds.Ipv6 octets = if length octets == 16 then Some (cells.Ipv6 octets) else None
cell_in kinds.Mac octets = if length octets == 6 then Some (cells.Mac octets) else None
cell_in kinds.Octets octets = None
cell_in (kinds.Unsigned width) octets = option_map (λ n. cells.Number n) (number_in (kinds.Unsigned width) octets)
cell_in kinds.Seconds octets = option_map (λ n. cells.Number n) (number_in kinds.Seconds octets)
cell_in kinds.Millis octets = option_map (λ n. cells.Number n) (number_in kinds.Millis octets)
