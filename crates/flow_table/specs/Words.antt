-- The words of a place, an interval and a key, which compare as places do.
use Rattle.std.specs.Prelude.{◌≡◌, ℕ, zero, suc, ◌+◌, ◌*◌, ◌/◌, ◌%◌, ◌^◌, ◌==◌, ◌&&◌, nat_lt, nat_le, Bool, true, false, List, [], ◌∷◌, ◌++◌, length, take, drop, slice_index_or, Option, Some, None, option_map, if◌then◌else◌}
use Rattle.std.specs.Int.{w64, to_be_bytes}
use Rattle.std.specs.List.{list_all}
use Rattle.ipfix_elements.specs.declared.cell.Cell.{Cell}
use Rattle.ipfix_elements.specs.declared.cell.Cell.TheVariants as cells
use Rattle.ipfix_elements.specs.declared.kind.Kind.{Kind}
use Rattle.ipfix_elements.specs.declared.kind.Kind.TheVariants as kinds
use Rattle.ipfix_elements.specs.Values.{octets_of}
use Rattle.flow_table.specs.declared.words.CellWords.{CellWords}
use Rattle.flow_table.specs.declared.words.CellWords.TheVariants.{Short, One, Two}
use Rattle.flow_table.specs.Plans.{PlanValue}

-- the number that octets spell after those of another number, the highest first
abbrev pub spelled : ℕ → List ℕ → ℕ
spelled m [] = m
spelled m (x ∷ xs) = spelled (m * 256 + x) xs

-- whether numbers are so many octets
abbrev pub are_octets : ℕ → List ℕ → Bool
are_octets n xs = (length xs == n) && list_all (λ x. nat_lt x 256) xs

-- the words of an address of so many octets
abbrev pub address_words : ℕ → List ℕ → List ℕ → Option (List ℕ)
address_words n xs words = if are_octets n xs then Some words else None

-- the words of a cell of a kind, none if it is no such cell: two for an IPv6 address, and one for all others
abbrev pub cell_words : Kind → Cell → Option (List ℕ)
cell_words (kinds.Unsigned width) (cells.Number n) = if nat_lt n (256 ^ octets_of width) then Some (n ∷ []) else None
cell_words kinds.Ipv4 (cells.Ipv4 address) = address_words 4 address (spelled 0 address ∷ [])
cell_words kinds.Ipv6 (cells.Ipv6 address) = address_words 16 address (spelled 0 (take 8 address) ∷ spelled 0 (drop 8 address) ∷ [])
cell_words kinds.Mac (cells.Mac address) = address_words 6 address (spelled 0 address ∷ [])
cell_words kind cell = None

-- whether a cell of a kind has a short word, below 2^32: an address and a number of at most four octets have
abbrev pub is_short : Kind → Bool
is_short (kinds.Unsigned width) = nat_le (octets_of width) 4
is_short kinds.Ipv4 = true
is_short kinds.Ipv6 = false
is_short kinds.Mac = false
is_short kinds.Seconds = false
is_short kinds.Millis = false
is_short kinds.Octets = false

-- which words of a cell of a kind are short
abbrev pub shorts_of_kind : Kind → List Bool
shorts_of_kind kinds.Ipv6 = false ∷ false ∷ []
shorts_of_kind kind = is_short kind ∷ []

-- a short word, a longer one, or two, and which of them are short
abbrev pub words_in : CellWords → List ℕ
words_in (Short word) = word ∷ []
words_in (One word) = word ∷ []
words_in (Two high low) = high ∷ low ∷ []

abbrev pub shorts_in : CellWords → List Bool
shorts_in (Short word) = true ∷ []
shorts_in (One word) = false ∷ []
shorts_in (Two high low) = false ∷ false ∷ []

-- the words of a cell of a kind, short where the kind has short ones
pub record HasWords (kind : Kind) (cell : Cell) (found : CellWords) : Type 0 where
  pub are : cell_words kind cell ≡ Some (words_in found)
  pub short : shorts_of_kind kind ≡ shorts_in found

-- one after the other, if there are both
abbrev pub both_words : Option (List ℕ) → Option (List ℕ) → Option (List ℕ)
both_words None second = None
both_words (Some ws) None = None
both_words (Some ws) (Some vs) = Some (ws ++ vs)

-- the words of cells, one of each kind, and which of them are short
abbrev pub plain_words : List Kind → List Cell → Option (List ℕ)
plain_words [] [] = Some []
plain_words [] (cell ∷ cells) = None
plain_words (kind ∷ kinds) [] = None
plain_words (kind ∷ kinds) (cell ∷ cells) = both_words (cell_words kind cell) (plain_words kinds cells)

abbrev pub shorts : List Kind → List Bool
shorts [] = []
shorts (kind ∷ kinds) = shorts_of_kind kind ++ shorts kinds

-- the number at a place, 0 after the last
abbrev pub nth : List ℕ → ℕ → ℕ
nth ns i = slice_index_or ns i 0

-- words, where two short ones that follow one another are put into one
abbrev pub pack : List Bool → List ℕ → List ℕ
pack [] ws = []
pack (true ∷ true ∷ fs) ws = (nth ws 0 * 2 ^ 32 + nth ws 1) ∷ pack fs (drop 2 ws)
pack (f ∷ fs) ws = nth ws 0 ∷ pack fs (drop 1 ws)

-- the words of a key
abbrev pub key_words : List Kind → List Cell → Option (List ℕ)
key_words kinds cells = option_map (pack (shorts kinds)) (plain_words kinds cells)

-- the words of an interval and a key, none if the key doesn't fit the plan
abbrev pub place_words : PlanValue → ℕ → List Cell → Option (List ℕ)
place_words plan k key = option_map (λ (ws : List ℕ). k ∷ ws) (key_words plan.kinds key)

-- how many words a cell of a kind has
abbrev pub words_of_kind : Kind → ℕ
words_of_kind kind = length (shorts_of_kind kind)

-- how many words a key has
abbrev pub word_count : List Kind → ℕ
word_count kinds = length (pack (shorts kinds) [])

-- ---- in steps

-- a short word that waits for another, if there is one
abbrev pub waiting : Option ℕ → List ℕ
waiting None = []
waiting (Some word) = word ∷ []

abbrev pub shorts_waiting : Option ℕ → List Bool
shorts_waiting None = []
shorts_waiting (Some word) = true ∷ []

-- this word and others, packed
abbrev pub pack_after : Option ℕ → List Bool → List ℕ → List ℕ
pack_after half fs ws = pack (shorts_waiting half ++ fs) (waiting half ++ ws)

-- the words of a cell come after old words and one that waits: now there are new words and one that waits, whatever follows
abbrev pub Pushes : Option ℕ → CellWords → List ℕ → List ℕ → Option ℕ → Type 0
Pushes half cell old new now = (fs : List Bool) (ws : List ℕ) → new ++ pack_after now fs ws ≡ old ++ pack_after half (shorts_in cell ++ fs) (words_in cell ++ ws)

-- whether the first two cells of kinds share a word
abbrev pub begins_pair : List Kind → Bool
begins_pair (first ∷ second ∷ kinds) = is_short first && is_short second
begins_pair kinds = false

-- ---- in rows

-- so many words, with zeros after them
abbrev pub padded : ℕ → List ℕ → List ℕ
padded zero ws = []
padded (suc n) [] = 0 ∷ padded n []
padded (suc n) (w ∷ ws) = w ∷ padded n ws

-- the first so many numbers of all
abbrev pub first_of : ℕ → (ℕ → ℕ) → List ℕ
first_of zero f = []
first_of (suc n) f = f 0 ∷ first_of n (λ i. f (suc i))

-- ---- back

-- eight octets of a number, the highest first
abbrev pub octets_in : ℕ → List ℕ
octets_in word = to_be_bytes w64 word

-- the cell of a kind that has these words, the second if it has two
abbrev pub cell_from : Kind → ℕ → ℕ → Cell
cell_from (kinds.Unsigned width) first second = cells.Number first
cell_from kinds.Ipv4 first second = cells.Ipv4 (drop 4 (octets_in first))
cell_from kinds.Ipv6 first second = cells.Ipv6 (octets_in first ++ octets_in second)
cell_from kinds.Mac first second = cells.Mac (drop 2 (octets_in first))
cell_from kinds.Seconds first second = cells.Number first
cell_from kinds.Millis first second = cells.Number first
cell_from kinds.Octets first second = cells.Number first

-- words from those that two short ones were put into
abbrev pub unpack : List Bool → List ℕ → List ℕ
unpack [] ws = []
unpack (true ∷ true ∷ fs) ws = (nth ws 0 / 2 ^ 32) ∷ (nth ws 0 % 2 ^ 32) ∷ unpack fs (drop 1 ws)
unpack (f ∷ fs) ws = nth ws 0 ∷ unpack fs (drop 1 ws)

-- the cells of kinds, whose words are one after another
abbrev pub plain_from : List Kind → List ℕ → List Cell
plain_from [] ws = []
plain_from (kind ∷ kinds) ws = cell_from kind (nth ws 0) (nth ws 1) ∷ plain_from kinds (drop (words_of_kind kind) ws)

-- the cells of kinds, whose words these are
abbrev pub key_from : List Kind → List ℕ → List Cell
key_from kinds ws = plain_from kinds (unpack (shorts kinds) ws)
