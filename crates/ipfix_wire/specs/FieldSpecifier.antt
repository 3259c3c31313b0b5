-- Field specifiers (RFC 7011, section 3.2).
use Rattle.std.specs.Prelude.{◌≡◌, ℕ, ◌+◌, ◌-◌, ◌^◌, ◌<◌, ◌⊎◌, Option, Some, None, nat_lt, ◌==◌, if◌then◌else◌, List, ◌++◌, length}
use Rattle.byteorder.specs.Endian.{big_bytes, big_number}
use Rattle.ipfix_wire.specs.Numbers.{number_at}
use Rattle.ipfix_wire.specs.declared.specifier.Spec.{Spec}

-- w spells the field specifier: the enterprise bit is the highest of the first 16, and brings an
-- enterprise number; without it, or with a number of 0, the element is one of IANA's
pub record SpellsSpec (s : Spec) (w : List ℕ) : Type 0 where
  pub number : s.element.number < 2 ^ 15
  pub pen : s.element.pen < 2 ^ 32
  pub width : s.width < 2 ^ 16
  pub octets : ((s.element.pen ≡ 0) × (w ≡ big_bytes 2 s.element.number ++ big_bytes 2 s.width))
      ⊎ (w ≡ big_bytes 2 (2 ^ 15 + s.element.number) ++ (big_bytes 2 s.width ++ big_bytes 4 s.element.pen))

-- the spelling that is written: the bit only where the enterprise is not 0
abbrev pub spec_octets : Spec → List ℕ
spec_octets s = if s.element.pen == 0 then big_bytes 2 s.element.number ++ big_bytes 2 s.width
    else big_bytes 2 (2 ^ 15 + s.element.number) ++ (big_bytes 2 s.width ++ big_bytes 4 s.element.pen)

-- what the octets begin with as a field specifier, and how many octets that takes
abbrev pub spec_at : List ℕ → Option (Spec × ℕ)
spec_at w =
    let first = big_number 2 w in
    let width = number_at 2 2 w in
    if nat_lt (length w) 4 then None
    else if nat_lt first (2 ^ 15) then Some (record { element = record { pen = 0; number = first }; width = width }, 4)
    else if nat_lt (length w) 8 then None
    else Some (record { element = record { pen = number_at 4 4 w; number = first - 2 ^ 15 }; width = width }, 8)
