-- The number of an address: that of the row whose prefix has the address and is the longest of those that have it.
use Rattle.std.specs.Prelude.{◌≡◌, ℕ, ◌<◌, ◌≤◌, ◌^◌, ◌⊎◌, ◌==◌, ◌&&◌, Bool, true, false, List, All, Contains}
use Rattle.network_prefixes.specs.Addresses.{first_bits}
use Rattle.network_prefixes.specs.declared.address_bits.AddressBits.{AddressBits}
use Rattle.network_prefixes.specs.declared.prefix.Prefix.{Prefix}
use Rattle.prefix_numbers.specs.declared.row.NumberedPrefix.{NumberedPrefix}

-- the address is of the prefix's family, and begins with its first bits
abbrev pub has : Prefix → AddressBits → Bool
has prefix a = (a.width == prefix.address.width) && (first_bits a prefix.length == first_bits prefix.address prefix.length)

-- the row's prefix has the address, and no row's that has it is longer
pub record IsLongest (rows : List NumberedPrefix) (a : AddressBits) (row : NumberedPrefix) : Type 0 where
  pub among : Contains rows row
  pub here : has row.prefix a ≡ true
  pub longest : All (λ other. has other.prefix a ≡ true → other.prefix.length ≤ row.prefix.length) rows

-- the number of such a row
pub record IsNumberOfLongest (rows : List NumberedPrefix) (a : AddressBits) (n : ℕ) : Type 0 where
  pub row : NumberedPrefix
  pub longest : IsLongest rows a row
  pub is : n ≡ row.number

-- 0, and no row's prefix has the address
pub record IsNumberOfNone (rows : List NumberedPrefix) (a : AddressBits) (n : ℕ) : Type 0 where
  pub none : All (λ row. has row.prefix a ≡ false) rows
  pub is : n ≡ 0

abbrev pub IsNumberOf : List NumberedPrefix → AddressBits → ℕ → Type 0
IsNumberOf rows a n = IsNumberOfLongest rows a n ⊎ IsNumberOfNone rows a n

-- an address of IPv4 or IPv6, with no more bits than it has
pub record IsAddress (a : AddressBits) : Type 0 where
  pub family : (a.width ≡ 32) ⊎ (a.width ≡ 128)
  pub bits : a.bits < 2 ^ a.width
