-- Prefixes of IPv4 addresses.
use Rattle.std.specs.Prelude.{ℕ, ◌-◌, ◌*◌, ◌/◌, ◌^◌, List}
use Rattle.std.specs.Int.{bit_at}
use Rattle.byteorder.specs.Endian.{big_bytes, big_number}

-- bit i of an address, counted from the highest
abbrev pub address_bit : List ℕ → ℕ → ℕ
address_bit address i = bit_at (big_number 4 address) (31 - i)

-- the address with its first bits, the others 0
abbrev pub masked : List ℕ → ℕ → List ℕ
masked address bits = big_bytes 4 (big_number 4 address / 2 ^ (32 - bits) * 2 ^ (32 - bits))
