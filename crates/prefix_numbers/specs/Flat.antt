-- Steps that give each address of a family the number of its longest prefix.
use Rattle.std.specs.Prelude.{◌≡◌, ℕ, ◌<◌, ◌^◌, List, length, slice_index}
use Rattle.network_prefixes.specs.Addresses.{bits_of_width}
use Rattle.prefix_numbers.specs.declared.flattening.Steps.{Steps}
use Rattle.prefix_numbers.specs.declared.row.NumberedPrefix.{NumberedPrefix}
use Rattle.prefix_numbers.specs.Longest.{IsNumberOf}
use Rattle.prefix_numbers.specs.Steps.{number_at}

-- beside each start is its number
pub record AreNumbers (rows : List NumberedPrefix) (width : ℕ) (starts numbers : List ℕ) : Type 0 where
  pub beside : length numbers ≡ length starts
  pub are : (k : ℕ) → k < length starts → slice_index starts k < 2 ^ 128 → IsNumberOf rows (bits_of_width width (slice_index starts k)) (slice_index numbers k)

-- each address has its number
abbrev pub IsFlat : List NumberedPrefix → ℕ → Steps → Type 0
IsFlat rows width steps = (a : ℕ) → a < 2 ^ 128 → IsNumberOf rows (bits_of_width width a) (number_at steps.starts.items steps.numbers.items a)
