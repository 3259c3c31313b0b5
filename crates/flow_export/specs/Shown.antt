-- The cells of a key as texts show them.
use Rattle.std.specs.Prelude.{ℕ, ◌==◌, Bool, List, [], ◌∷◌, drop, if◌then◌else◌}
use Rattle.std.specs.List.{starts_with}
use Rattle.ipfix_elements.specs.declared.cell.Cell.{Cell}
use Rattle.ipfix_elements.specs.declared.cell.Cell.TheVariants.{Number, Ipv4, Ipv6, Mac}
use Rattle.flow_table.specs.declared.key.Key.{Key}
use Rattle.flow_table.specs.Plans.{exporter, same_element}

-- the first 12 octets of an address of IPv4 that is mapped into IPv6 (RFC 4291, section 2.5.5.2)
abbrev pub mapped_prefix : List ℕ
mapped_prefix = 0 ∷ 0 ∷ 0 ∷ 0 ∷ 0 ∷ 0 ∷ 0 ∷ 0 ∷ 0 ∷ 0 ∷ 255 ∷ 255 ∷ []

abbrev pub is_mapped : List ℕ → Bool
is_mapped address = starts_with ◌==◌ address mapped_prefix

-- an address of 16 octets, that of IPv4 if it has one mapped
abbrev pub unmapped : List ℕ → Cell
unmapped address = if is_mapped address then Ipv4 (drop 12 address) else Ipv6 address

-- an exporter's address is shown as that of IPv4 if it has one mapped, every other cell as it is
abbrev pub shown_cell : Key → Cell → Cell
shown_cell key (Number n) = Number n
shown_cell key (Ipv4 address) = Ipv4 address
shown_cell key (Ipv6 address) = if same_element key.element exporter then unmapped address else Ipv6 address
shown_cell key (Mac address) = Mac address

-- the cells of keys
abbrev pub shown_cells : List Key → List Cell → List Cell
shown_cells [] cells = cells
shown_cells (key ∷ keys) [] = []
shown_cells (key ∷ keys) (cell ∷ cells) = shown_cell key cell ∷ shown_cells keys cells
