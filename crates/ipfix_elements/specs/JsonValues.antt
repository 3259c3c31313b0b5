-- Values of JSON (RFC 8259), as a dump and a table write them.
use Rattle.std.specs.Prelude.{ℕ, ◌^◌, Bool, nat_lt, List, ◌++◌, codes, if◌then◌else◌}
use Rattle.std.specs.Fmt.{decimal}
use Rattle.std.specs.Option.{option_map_or}
use Rattle.ipfix_elements.specs.Texts.{cell_text, value_text}
use Rattle.ipfix_elements.specs.Values.{cell_in}
use Rattle.ipfix_elements.specs.declared.kind.Kind.{Kind}
use Rattle.ipfix_elements.specs.declared.cell.Cell.{Cell}
use Rattle.ipfix_elements.specs.declared.cell.Cell.TheVariants.{Number, Ipv4, Ipv6, Mac}

-- a number that every reader of JSON holds exactly (RFC 7493, section 2.2)
abbrev pub is_exact : ℕ → Bool
is_exact n = nat_lt n (2 ^ 53)

-- a text that needs no escape, between quotation marks
abbrev pub in_quotes : List ℕ → List ℕ
in_quotes text = codes "\"" ++ (text ++ codes "\"")

-- such a number as it is, any other one between quotation marks
abbrev pub json_number : ℕ → List ℕ
json_number n = if is_exact n then decimal n else in_quotes (decimal n)

-- an address is a text
abbrev pub json_cell : Cell → List ℕ
json_cell (Number n) = json_number n
json_cell (Ipv4 address) = in_quotes (cell_text (Ipv4 address))
json_cell (Ipv6 address) = in_quotes (cell_text (Ipv6 address))
json_cell (Mac address) = in_quotes (cell_text (Mac address))

-- a field by its kind: the cell that its octets are, or their text between quotation marks if they are none
abbrev pub json_value : Kind → List ℕ → List ℕ
json_value kind octets = option_map_or json_cell (cell_in kind octets) (in_quotes (value_text kind octets))
