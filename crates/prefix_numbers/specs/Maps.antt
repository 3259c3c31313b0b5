-- The map of a text.
use Rattle.std.specs.Prelude.{◌≡◌, ℕ, ◌^◌, ◌==◌, nat_lt, List, if◌then◌else◌}
use Rattle.std.specs.Str.{IsUtf8, IsValidUpTo}
use Rattle.std.specs.Str.Lines.{lines}
use Rattle.network_prefixes.specs.declared.address_bits.AddressBits.{AddressBits}
use Rattle.prefix_numbers.specs.declared.error.MapError.{MapError}
use Rattle.prefix_numbers.specs.declared.error.MapFault.{MapFault}
use Rattle.prefix_numbers.specs.declared.error.MapFault.TheVariants.{NotUtf8, OutOfMemory}
use Rattle.prefix_numbers.specs.declared.prefix_map.PrefixMap.{PrefixMap}
use Rattle.prefix_numbers.specs.declared.row.NumberedPrefix.{NumberedPrefix}
use Rattle.prefix_numbers.specs.Longest.{IsAddress, IsNumberOf}
use Rattle.prefix_numbers.specs.Steps.{number_at}
use Rattle.prefix_numbers.specs.Texts.{line_at, AreRows, IsFirstFault}

-- the number that a map gives for an address
unfoldable pub number_of : PrefixMap → AddressBits → ℕ
number_of m a =
    if a.width == 32
    then (if nat_lt a.bits (2 ^ 32) then number_at m.ipv4_starts.items m.ipv4_numbers.items a.bits else 0)
    else number_at m.ipv6_starts.items m.ipv6_numbers.items a.bits

-- it is that of the longest prefix that has the address
abbrev pub IsMapOfRows : List NumberedPrefix → PrefixMap → Type 0
IsMapOfRows rows m = (a : AddressBits) → IsAddress a → IsNumberOf rows a (number_of m a)

-- the text is UTF-8, its lines are these rows, and this is their map
pub record IsMapOf (octets : List ℕ) (m : PrefixMap) : Type 0 where
  pub utf8 : IsUtf8 octets
  pub rows : List NumberedPrefix
  pub said : AreRows (lines octets) rows
  pub longest : IsMapOfRows rows m

-- the line in which the text stops being UTF-8
pub record IsNoText (octets : List ℕ) (line : ℕ) : Type 0 where
  pub place : ℕ
  pub valid : IsValidUpTo octets place
  pub is : line ≡ line_at octets place

-- the text is UTF-8, and this is the first fault of its lines
pub record IsFaultOfText (octets : List ℕ) (e : MapError) : Type 0 where
  pub utf8 : IsUtf8 octets
  pub first : IsFirstFault (lines octets) e.line e.fault

-- why a text gives no map; memory may run out at any
abbrev pub IsFaultAs : MapFault → List ℕ → MapError → Type 0
IsFaultAs NotUtf8 octets e = IsNoText octets e.line
IsFaultAs OutOfMemory octets e = Unit {0}
IsFaultAs fault octets e = IsFaultOfText octets e

abbrev pub IsMapError : List ℕ → MapError → Type 0
IsMapError octets e = IsFaultAs e.fault octets e
