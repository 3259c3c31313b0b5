-- Rows with the keys of their prefixes, by which one that comes twice is found.
use Rattle.std.specs.Prelude.{◌≡◌, ℕ, ◌<◌, ◌≤◌, true, false, List, [], ◌∷◌, ◌++◌, map, length, MatchBool, IsPermutation, Result, Ok, Err}
use Rattle.network_prefixes.specs.declared.prefix.Prefix.{Prefix}
use Rattle.prefix_numbers.specs.declared.error.MapFault.{MapFault}
use Rattle.prefix_numbers.specs.declared.error.MapFault.TheVariants.{PrefixTwice, TooMany, OutOfMemory}
use Rattle.prefix_numbers.specs.declared.reading.TheConstants.{MAX_ROWS}
use Rattle.prefix_numbers.specs.declared.row.NumberedPrefix.{NumberedPrefix}
use Rattle.prefix_numbers.specs.declared.row_keys.RowKeys.{RowKeys}
use Rattle.prefix_numbers.specs.Rows.{IsRow}
use Rattle.prefix_numbers.specs.Texts.{has_prefix, says_row, IsFaultAfter}

abbrev pub key_of : Prefix → ℕ × ℕ × ℕ
key_of p = (p.address.width, p.length, p.address.bits)

-- the keys are those of the rows
abbrev pub HasKeys : RowKeys → Type 0
HasKeys r = IsPermutation (map (λ row. key_of row.prefix) r.rows.items) r.keys.keys

-- the row is one more
pub record IsOneMore (rows : List NumberedPrefix) (row : NumberedPrefix) (more : List NumberedPrefix) : Type 0 where
  pub items : more ≡ rows ++ row ∷ []
  pub new : has_prefix rows row.prefix ≡ false
  pub place : length rows < MAX_ROWS

abbrev pub AddsRow : List NumberedPrefix → NumberedPrefix → List NumberedPrefix → Result (Unit {0}) MapFault → Type 0
AddsRow rows row more (Ok _) = IsOneMore rows row more
AddsRow rows row more (Err PrefixTwice) = has_prefix rows row.prefix ≡ true
AddsRow rows row more (Err TooMany) = (has_prefix rows row.prefix ≡ false) × (MAX_ROWS ≤ length rows)
AddsRow rows row more (Err OutOfMemory) = Unit {0}
AddsRow rows row more (Err fault) = ⊥

-- the line is a row, and that is one more
pub record IsRowMore (rows : List NumberedPrefix) (line : List ℕ) (more : List NumberedPrefix) : Type 0 where
  pub row : NumberedPrefix
  pub said : IsRow line row
  pub added : IsOneMore rows row more

abbrev pub AddsLine : List NumberedPrefix → List ℕ → List NumberedPrefix → Result (Unit {0}) MapFault → Type 0
AddsLine rows line more (Ok _) = MatchBool (says_row line) (IsRowMore rows line more) (more ≡ rows)
AddsLine rows line more (Err OutOfMemory) = Unit {0}
AddsLine rows line more (Err fault) = (says_row line ≡ true) × IsFaultAfter rows line fault
