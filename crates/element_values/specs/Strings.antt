-- Strings in UTF-8 (RFC 7011, section 6.1.6), written so that none of their octets can do anything to a terminal.
use Rattle.std.specs.Prelude.{ℕ, ◌==◌, ◌/◌, ◌%◌, ◌&&◌, Bool, not, nat_le, List, [], ◌∷◌, ◌++◌, reverse, codes, Option, Some, None, if◌then◌else◌}
use Rattle.std.specs.List.{flat_map}
use Rattle.std.specs.Str.{chars, is_utf8}
use Rattle.std.specs.Char.Escape.{encode_utf16}
use Rattle.hex.specs.Hex.{encode_lower}
use Rattle.ipfix_elements.specs.JsonValues.{in_quotes}
use Rattle.ipfix_elements.specs.Texts.{octet_text}

abbrev pub behind_zeros : List ℕ → List ℕ
behind_zeros [] = []
behind_zeros (b ∷ bs) = if b == 0 then behind_zeros bs else b ∷ bs

-- exporters fill a field of a fixed length up with zeros: those at the end are no part of the string
abbrev pub without_zeros : List ℕ → List ℕ
without_zeros octets = reverse (behind_zeros (reverse octets))

abbrev pub string_in : List ℕ → Option (List ℕ)
string_in octets = if is_utf8 (without_zeros octets) then Some (without_zeros octets) else None

-- what is written as it is: printing ASCII but for the quotation mark and the backslash
abbrev pub is_plain : ℕ → Bool
is_plain c = nat_le 32 c && nat_le c 126 && not (c == 34) && not (c == 92)

abbrev pub escaped_octet : ℕ → List ℕ
escaped_octet b = if is_plain b then b ∷ [] else codes "\\x" ++ octet_text b

-- a string in a line of text: each other octet by its two hexadecimal digits
abbrev pub quoted_text : List ℕ → List ℕ
quoted_text octets = in_quotes (flat_map escaped_octet octets)

abbrev pub escaped_unit : ℕ → List ℕ
escaped_unit u = if is_plain u then u ∷ [] else codes "\\u" ++ encode_lower (u / 256 ∷ u % 256 ∷ [])

abbrev pub escaped_char : ℕ → List ℕ
escaped_char c = flat_map escaped_unit (encode_utf16 c)

-- a string of JSON (RFC 8259, section 7): each other character by its units of UTF-16
abbrev pub json_string : List ℕ → List ℕ
json_string octets = in_quotes (flat_map escaped_char (chars octets))
