-- The order of cells, and their octets.
use Rattle.std.specs.Prelude.{ℕ, ◌^◌, ◌<◌, List}
use Rattle.std.specs.Ordering.{nat_cmp}
use Rattle.std.specs.Cmp.Lexicographic.{slice_cmp}
use Rattle.std.specs.declared.cmp.Ordering.{Ordering}
use Rattle.byteorder.specs.Endian.{big_bytes}
use Rattle.ipfix_elements.specs.declared.cell.Cell.{Cell}
use Rattle.ipfix_elements.specs.declared.cell.Cell.TheVariants.{Number, Ipv4, Ipv6, Mac}

-- the place of a cell's variant among the four
abbrev pub variant_of : Cell → ℕ
variant_of (Number n) = 0
variant_of (Ipv4 address) = 1
variant_of (Ipv6 address) = 2
variant_of (Mac address) = 3

-- numbers by value, addresses by their octets from the first on, and cells of two variants by those
abbrev pub cell_cmp : Cell → Cell → Ordering
cell_cmp (Number m) (Number n) = nat_cmp m n
cell_cmp (Ipv4 a) (Ipv4 b) = slice_cmp nat_cmp a b
cell_cmp (Ipv6 a) (Ipv6 b) = slice_cmp nat_cmp a b
cell_cmp (Mac a) (Mac b) = slice_cmp nat_cmp a b
cell_cmp a b = nat_cmp (variant_of a) (variant_of b)

-- a number has room in so many octets; an address is as long as it is
abbrev pub FitsWidth : Cell → ℕ → Type 0
FitsWidth (Number n) width = n < 256 ^ width
FitsWidth (Ipv4 address) width = Unit {0}
FitsWidth (Ipv6 address) width = Unit {0}
FitsWidth (Mac address) width = Unit {0}

-- a number in so many octets, the highest first; an address whole (RFC 7011, section 6.1)
abbrev pub cell_octets : Cell → ℕ → List ℕ
cell_octets (Number n) width = big_bytes width n
cell_octets (Ipv4 address) width = address
cell_octets (Ipv6 address) width = address
cell_octets (Mac address) width = address
