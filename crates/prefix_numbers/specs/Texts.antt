-- The rows of a text, or its first fault.
use Rattle.std.specs.Prelude.{◌≡◌, ℕ, ◌+◌, ◌≤◌, ◌==◌, ◌&&◌, not, Bool, true, false, List, [], ◌∷◌, filter, take, length, count_by, slice_get, AllPairs, Some}
use Rattle.std.specs.List.{AllZip, list_any}
use Rattle.network_prefixes.specs.declared.prefix.Prefix.{Prefix}
use Rattle.prefix_numbers.specs.declared.error.MapFault.{MapFault}
use Rattle.prefix_numbers.specs.declared.error.MapFault.TheVariants.{PrefixTwice, TooMany}
use Rattle.prefix_numbers.specs.declared.reading.TheConstants.{MAX_ROWS}
use Rattle.prefix_numbers.specs.declared.row.NumberedPrefix.{NumberedPrefix}
use Rattle.prefix_numbers.specs.Rows.{IsRow, IsRowFault}

-- a line is a row, unless it is empty or begins with #
abbrev pub says_row : List ℕ → Bool
says_row [] = false
says_row (octet ∷ line) = not (octet == 35)

-- two prefixes of one family, length and address
abbrev pub is_same : Prefix → Prefix → Bool
is_same p q = ((p.address.width == q.address.width) && (p.length == q.length)) && (p.address.bits == q.address.bits)

-- a row has the prefix
abbrev pub has_prefix : List NumberedPrefix → Prefix → Bool
has_prefix rows prefix = list_any (λ row. is_same prefix row.prefix) rows

-- each row is one of the lines, in their order; no prefix is in two of them; there are at most MAX_ROWS
pub record AreRows (lines : List (List ℕ)) (rows : List NumberedPrefix) : Type 0 where
  pub said : AllZip IsRow (filter says_row lines) rows
  pub apart : AllPairs (λ first later. is_same later.prefix first.prefix ≡ false) rows
  pub few : length rows ≤ MAX_ROWS

-- ---- the fault of a line, after the rows before it

-- a row whose prefix one of these has
pub record IsRowAgain (rows : List NumberedPrefix) (line : List ℕ) : Type 0 where
  pub row : NumberedPrefix
  pub said : IsRow line row
  pub twice : has_prefix rows row.prefix ≡ true

-- a row with a new prefix, after as many as there may be
pub record IsRowTooMany (rows : List NumberedPrefix) (line : List ℕ) : Type 0 where
  pub row : NumberedPrefix
  pub said : IsRow line row
  pub new : has_prefix rows row.prefix ≡ false
  pub full : MAX_ROWS ≤ length rows

abbrev pub IsFaultAfter : List NumberedPrefix → List ℕ → MapFault → Type 0
IsFaultAfter rows line PrefixTwice = IsRowAgain rows line
IsFaultAfter rows line TooMany = IsRowTooMany rows line
IsFaultAfter rows line fault = IsRowFault line fault

-- the line has the fault, and each line before it has none
pub record IsFirstFault (lines : List (List ℕ)) (line : ℕ) (fault : MapFault) : Type 0 where
  pub place : ℕ
  pub counted : line ≡ place + 1
  pub text : List ℕ
  pub here : slice_get lines place ≡ Some text
  pub row : says_row text ≡ true
  pub rows : List NumberedPrefix
  pub before : AreRows (take place lines) rows
  pub is : IsFaultAfter rows text fault

-- the line in which a place of a text is, from 1
abbrev pub line_at : List ℕ → ℕ → ℕ
line_at octets place = count_by (λ octet. octet == 10) (take place octets) + 1
