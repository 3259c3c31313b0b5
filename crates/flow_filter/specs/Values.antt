-- The values of fields that conditions compare.
use Rattle.std.specs.Prelude.{ℕ, ◌/◌, ◌%◌, ◌^◌, ◌==◌, Bool, true, false, List, length, Option, Some, None, option_map, if◌then◌else◌}
use Rattle.byteorder.specs.Endian.{big_number}
use Rattle.ipfix_elements.specs.declared.kind.Kind.{Kind}
use Rattle.ipfix_elements.specs.declared.kind.Kind.TheVariants as kinds
use Rattle.ipfix_elements.specs.Values.{number_in}
use Rattle.network_prefixes.specs.Addresses.{bits_of_width}
use Rattle.network_prefixes.specs.declared.address_bits.AddressBits.{AddressBits}
use Rattle.flow_filter.specs.declared.value.Value.{Value}
use Rattle.flow_filter.specs.declared.value.Value.TheVariants.{Number, Address}

-- unsigned numbers, and addresses of IPv4 and IPv6
abbrev pub is_comparable : Kind → Bool
is_comparable (kinds.Unsigned width) = true
is_comparable kinds.Ipv4 = true
is_comparable kinds.Ipv6 = true
is_comparable kinds.Mac = false
is_comparable kinds.Seconds = false
is_comparable kinds.Millis = false
is_comparable kinds.Octets = false

-- ::ffff:a.b.c.d counts as the IPv4 address in it (RFC 4291, section 2.5.5.2)
abbrev pub ipv6_value : ℕ → AddressBits
ipv6_value n = if n / 2 ^ 32 == 0xffff then bits_of_width 32 (n % 2 ^ 32) else bits_of_width 128 n

-- the value that octets are, by kind (RFC 7011, sections 6.1.1, 6.1.2 and 6.2)
abbrev pub value_in : Kind → List ℕ → Option Value
value_in (kinds.Unsigned width) octets = option_map (λ n. Number n) (number_in (kinds.Unsigned width) octets)
value_in kinds.Ipv4 octets = if length octets == 4 then Some (Address (bits_of_width 32 (big_number 4 octets))) else None
value_in kinds.Ipv6 octets = if length octets == 16 then Some (Address (ipv6_value (big_number 16 octets))) else None
value_in kind octets = None
