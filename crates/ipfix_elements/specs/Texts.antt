-- Values as text.
use Rattle.std.specs.Prelude.{ℕ, List, [], ◌∷◌, ◌++◌, map, codes}
use Rattle.std.specs.Option.{option_map_or}
use Rattle.std.specs.Fmt.{decimal}
use Rattle.std.specs.List.{join_with_byte}
use Rattle.hex.specs.Hex.{encode_lower}
use Rattle.ipfix_elements.specs.Ascii.{dot, colon}
use Rattle.ipfix_elements.specs.declared.kind.Kind.{Kind}
use Rattle.ipfix_elements.specs.declared.kind.Kind.TheVariants as kinds
use Rattle.ipfix_elements.specs.declared.cell.Cell.{Cell}
use Rattle.ipfix_elements.specs.declared.cell.Cell.TheVariants.{Number, Ipv4, Ipv6, Mac}
use Rattle.ipfix_elements.specs.Values.{cell_in}

-- two lower-case hexadecimal digits
abbrev pub octet_text : ℕ → List ℕ
octet_text b = encode_lower (b ∷ [])

-- the octets, two and two
abbrev pub pairs : List ℕ → List (List ℕ)
pairs [] = []
pairs (a ∷ []) = (a ∷ []) ∷ []
pairs (a ∷ b ∷ rest) = (a ∷ b ∷ []) ∷ pairs rest

-- four decimal numbers joined by dots
abbrev pub ipv4_text : List ℕ → List ℕ
ipv4_text address = join_with_byte dot (map decimal address)

-- eight groups of four hexadecimal digits joined by colons
abbrev pub ipv6_text : List ℕ → List ℕ
ipv6_text address = join_with_byte colon (map encode_lower (pairs address))

-- six groups of two hexadecimal digits joined by colons
abbrev pub mac_text : List ℕ → List ℕ
mac_text address = join_with_byte colon (map octet_text address)

unfoldable pub cell_text : Cell → List ℕ
cell_text (Number n) = decimal n
cell_text (Ipv4 address) = ipv4_text address
cell_text (Ipv6 address) = ipv6_text address
cell_text (Mac address) = mac_text address

-- what stands before octets in hexadecimal: a question mark too if they are not of their kind
abbrev pub hex_mark : Kind → List ℕ
hex_mark kinds.Octets = codes "0x"
hex_mark (kinds.Unsigned width) = codes "?0x"
hex_mark kinds.Ipv4 = codes "?0x"
hex_mark kinds.Ipv6 = codes "?0x"
hex_mark kinds.Mac = codes "?0x"
hex_mark kinds.Seconds = codes "?0x"
hex_mark kinds.Millis = codes "?0x"

-- octets as the cell that they are read as, or else in hexadecimal
abbrev pub value_text : Kind → List ℕ → List ℕ
value_text kind octets = option_map_or cell_text (cell_in kind octets) (hex_mark kind ++ encode_lower octets)
