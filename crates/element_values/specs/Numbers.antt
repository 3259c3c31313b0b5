-- Values of boolean and signed elements (RFC 7011, sections 6.1.1, 6.1.5 and 6.2).
use Rattle.std.specs.Prelude.{ℕ, ℤ, ◌&&◌, Bool, true, false, nat_lt, nat_le, List, [], ◌∷◌, length, Option, Some, None, if◌then◌else◌}
use Rattle.std.specs.Str.{bytes_eq}
use Rattle.byteorder.specs.Endian.{big_number, twos_complement}
use Rattle.ipfix_elements.specs.declared.kind.Width.{Width}
use Rattle.ipfix_elements.specs.Values.{octets_of}

-- 1 octet, 1 for true and 2 for false (section 6.1.5)
abbrev pub boolean_in : List ℕ → Option Bool
boolean_in octets =
    if bytes_eq octets (1 ∷ []) then Some true
    else if bytes_eq octets (2 ∷ []) then Some false
    else None

-- in two's complement (section 6.1.1), in its full width or in fewer octets, of which the highest bit is the sign (section 6.2)
abbrev pub signed_in : Width → List ℕ → Option ℤ
signed_in width octets =
    if nat_lt 0 (length octets) && nat_le (length octets) (octets_of width)
    then Some (twos_complement (length octets) (big_number (length octets) octets))
    else None
