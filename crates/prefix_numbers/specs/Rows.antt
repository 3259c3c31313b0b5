-- Rows of a prefix and its number: PREFIX,NUMBER.
use Rattle.std.specs.Prelude.{◌≡◌, ◌≢◌, ◌<◌, ◌^◌, ℕ, ◌==◌, Bool, List, Result, Ok, Err, decimal}
use Rattle.std.specs.List.{before_first, after_first}
use Rattle.network_prefixes.specs.declared.prefix.Prefix.{Prefix}
use Rattle.network_prefixes.specs.Prefixes.{IsPrefixWord, IsWordWithBitsAfter}
use Rattle.prefix_numbers.specs.declared.error.MapFault.{MapFault}
use Rattle.prefix_numbers.specs.declared.error.MapFault.TheVariants.{NoPrefix, BitsAfter, NoNumber}
use Rattle.prefix_numbers.specs.declared.row.NumberedPrefix.{NumberedPrefix}

abbrev pub is_comma : ℕ → Bool
is_comma octet = octet == 44

-- what is before the first comma, and what is after it: all and nothing, if there is none
abbrev pub prefix_word : List ℕ → List ℕ
prefix_word line = before_first is_comma line

abbrev pub number_text : List ℕ → List ℕ
number_text line = after_first is_comma line

-- a prefix, a comma and a decimal number below 2^32
pub record IsRow (line : List ℕ) (row : NumberedPrefix) : Type 0 where
  pub prefix : IsPrefixWord (prefix_word line) row.prefix
  pub number : number_text line ≡ decimal row.number
  pub small : row.number < 2 ^ 32

-- ---- the first fault of a row

-- neither a prefix nor one with bits after it
pub record IsNoPrefix (word : List ℕ) : Type 0 where
  pub none : (prefix : Prefix) → ¬ IsPrefixWord word prefix
  pub no_bits : ¬ IsWordWithBitsAfter word

-- a prefix, but no number after it
pub record HasNoNumber (line : List ℕ) : Type 0 where
  pub prefix : Prefix
  pub spelled : IsPrefixWord (prefix_word line) prefix
  pub none : (n : ℕ) → n < 2 ^ 32 → number_text line ≢ decimal n

abbrev pub IsRowFault : List ℕ → MapFault → Type 0
IsRowFault line NoPrefix = IsNoPrefix (prefix_word line)
IsRowFault line BitsAfter = IsWordWithBitsAfter (prefix_word line)
IsRowFault line NoNumber = HasNoNumber line
IsRowFault line fault = ⊥

-- a row is read, or its first fault is found
abbrev pub ReadsRow : List ℕ → Result NumberedPrefix MapFault → Type 0
ReadsRow line (Ok row) = IsRow line row
ReadsRow line (Err fault) = IsRowFault line fault

abbrev pub ReadsPrefix : List ℕ → Result Prefix MapFault → Type 0
ReadsPrefix word (Ok prefix) = IsPrefixWord word prefix
ReadsPrefix word (Err NoPrefix) = IsNoPrefix word
ReadsPrefix word (Err BitsAfter) = IsWordWithBitsAfter word
ReadsPrefix word (Err fault) = ⊥
