-- Why a text gives no map.
use Rattle.std.specs.Prelude.{ℕ, List, codes}
use Rattle.prefix_numbers.specs.declared.error.MapFault.{MapFault}
use Rattle.prefix_numbers.specs.declared.error.MapFault.TheVariants.{NotUtf8, NoPrefix, BitsAfter, NoNumber, PrefixTwice, TooMany, OutOfMemory}

-- the numbers and the names that reports give; 1 is a file that can't be opened
abbrev pub number_of : MapFault → ℕ
number_of NotUtf8 = 2
number_of NoPrefix = 3
number_of BitsAfter = 4
number_of NoNumber = 5
number_of PrefixTwice = 6
number_of TooMany = 7
number_of OutOfMemory = 8

abbrev pub name_of : MapFault → List ℕ
name_of NotUtf8 = codes "NotUtf8"
name_of NoPrefix = codes "NoPrefix"
name_of BitsAfter = codes "BitsAfter"
name_of NoNumber = codes "NoNumber"
name_of PrefixTwice = codes "PrefixTwice"
name_of TooMany = codes "TooMany"
name_of OutOfMemory = codes "OutOfMemory"
