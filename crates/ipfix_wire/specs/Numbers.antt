-- Numbers in octets, the highest octet first (RFC 7011, section 6.1.1).
use Rattle.std.specs.Prelude.{ℕ, ◌<◌, List, get_or, drop}
use Rattle.byteorder.specs.Endian.{big_number}

-- the big-endian number in the n octets from place i
abbrev pub number_at : ℕ → ℕ → List ℕ → ℕ
number_at i n octets = big_number n (drop i octets)

-- each member is below 256
abbrev pub IsOctets : List ℕ → Type 0
IsOctets w = (i : ℕ) → get_or w i 0 < 256
