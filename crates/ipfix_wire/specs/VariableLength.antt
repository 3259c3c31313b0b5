-- The length that a variable-length field begins with (RFC 7011, section 7).
use Rattle.std.specs.Prelude.{◌≡◌, ℕ, ◌^◌, ◌<◌, ◌⊎◌, Option, Some, None, nat_lt, ◌==◌, if◌then◌else◌, List, [], ◌∷◌, length}
use Rattle.byteorder.specs.Endian.{big_bytes, big_number}

-- w spells the length of a variable-length field: one octet below 255, or 255 and two octets
abbrev pub SpellsLength : ℕ → List ℕ → Type 0
SpellsLength n w = ((n < 255) × (w ≡ n ∷ [])) ⊎ ((n < 2 ^ 16) × (w ≡ 255 ∷ big_bytes 2 n))

-- the spelling that is written, the shortest
abbrev pub length_octets : ℕ → List ℕ
length_octets n = if nat_lt n 255 then n ∷ [] else 255 ∷ big_bytes 2 n

-- what the octets begin with as the length of a variable-length field, and how many octets that takes
abbrev pub length_at : List ℕ → Option (ℕ × ℕ)
length_at [] = None
length_at (b ∷ w) = if b == 255 then (if nat_lt (length w) 2 then None else Some (big_number 2 w, 3)) else Some (b, 1)
