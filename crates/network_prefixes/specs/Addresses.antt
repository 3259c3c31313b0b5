-- Addresses as numbers, and the first bits of them.
use Rattle.std.specs.Prelude.{◌≡◌, ℕ, ◌-◌, ◌*◌, ◌/◌, ◌^◌, [], ◌∷◌, take, bytes_eq, Bool, if◌then◌else◌}
use Rattle.std.specs.Int.{w32, from_be_bytes}
use Rattle.std.specs.Net.Addr.{ipv4_bits, ipv6_bits, ipv6_segments, low_octets}
use Rattle.std.specs.declared.net.ipv6_addr.Ipv6Addr.{Ipv6Addr}
use Rattle.std.specs.declared.net.ip_addr.IpAddr.{IpAddr}
use Rattle.std.specs.declared.net.ip_addr.IpAddr.TheVariants.{V4, V6}
use Rattle.network_prefixes.specs.declared.address_bits.AddressBits.{AddressBits}

-- an address is ::ffff:a.b.c.d
abbrev pub is_mapped : Ipv6Addr → Bool
is_mapped a = bytes_eq (take 6 (ipv6_segments a)) (0 ∷ 0 ∷ 0 ∷ 0 ∷ 0 ∷ 0xffff ∷ [])

abbrev pub bits_of_width : ℕ → ℕ → AddressBits
bits_of_width width bits = record { width = width; bits = bits }

-- an IPv4-mapped address counts as the IPv4 address in it
abbrev pub address_bits : IpAddr → AddressBits
address_bits (V4 a) = bits_of_width 32 (ipv4_bits a)
address_bits (V6 a) = if is_mapped a then bits_of_width 32 (from_be_bytes w32 (low_octets a)) else bits_of_width 128 (ipv6_bits a)

-- how many bits are after the first ones
abbrev pub bits_behind : AddressBits → ℕ → ℕ
bits_behind a length = a.width - length

-- its first bits, so many of them, as a number
abbrev pub first_bits : AddressBits → ℕ → ℕ
first_bits a length = a.bits / 2 ^ bits_behind a length

-- all bits after them are 0
abbrev pub EndsBehind : AddressBits → ℕ → Type 0
EndsBehind a length = first_bits a length * 2 ^ bits_behind a length ≡ a.bits
