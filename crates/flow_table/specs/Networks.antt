-- The networks of IPv6 addresses.
use Rattle.std.specs.Prelude.{ℕ, ◌-◌, ◌*◌, ◌/◌, ◌^◌, List}
use Rattle.byteorder.specs.Endian.{big_bytes, big_number}

-- the address with its first bits, the others 0
abbrev pub masked_ipv6 : List ℕ → ℕ → List ℕ
masked_ipv6 address bits = big_bytes 16 (big_number 16 address / 2 ^ (128 - bits) * 2 ^ (128 - bits))
