-- Names that a file gives, as a terminal may show them.
use Rattle.std.specs.Prelude.{ℕ, false, ◌/◌, ◌%◌, ◌==◌, ◌&&◌, nat_lt, nat_le, not, Bool, List, [], ◌∷◌, ◌++◌, length, take, codes, if◌then◌else◌}
use Rattle.std.specs.List.{flat_map}
use Rattle.std.specs.Fmt.{digit_glyph}

-- a character of ASCII that prints, but for the quotation mark and the backslash
abbrev pub is_plain : ℕ → Bool
is_plain b = nat_le 32 b && (nat_lt b 127 && (not (b == 34) && not (b == 92)))

abbrev pub hex_digits : ℕ → List ℕ
hex_digits b = digit_glyph false (b / 16) ∷ digit_glyph false (b % 16) ∷ []

-- an octet as itself, or as `\x` and two hexadecimal digits
abbrev pub octet_shown : ℕ → List ℕ
octet_shown b = if is_plain b then b ∷ [] else codes "\\x" ++ hex_digits b

-- the first 64 octets, and two points for those after them
abbrev pub text_shown : List ℕ → List ℕ
text_shown text = if nat_lt 64 (length text) then flat_map octet_shown (take 64 text) ++ codes ".." else flat_map octet_shown text

abbrev pub quoted : List ℕ → List ℕ
quoted text = codes "\"" ++ (text_shown text ++ codes "\"")
