-- The addresses of a prefix as numbers, from its first one up to its end.
use Rattle.std.specs.Prelude.{◌≡◌, ℕ, ◌+◌, ◌<◌, ◌^◌, List, Contains, Result, OnOk}
use Rattle.std.specs.declared.alloc.AllocError.{AllocError}
use Rattle.network_prefixes.specs.Addresses.{bits_behind, EndsBehind}
use Rattle.network_prefixes.specs.declared.prefix.Prefix.{Prefix}
use Rattle.prefix_numbers.specs.declared.row.NumberedPrefix.{NumberedPrefix}

-- the number after its last address
abbrev pub end_of : Prefix → ℕ
end_of p = p.address.bits + 2 ^ bits_behind p.address p.length

-- both ends of a prefix of a family are among some numbers, unless there is no address after the last
pub record HasEnds (starts : List ℕ) (prefix : Prefix) : Type 0 where
  pub first : Contains starts prefix.address.bits
  pub after : end_of prefix < 2 ^ 128 → Contains starts (end_of prefix)

abbrev pub HasEndsOf : ℕ → List ℕ → NumberedPrefix → Type 0
HasEndsOf width starts row = row.prefix.address.width ≡ width → HasEnds starts row.prefix

-- the bits after a prefix are 0
abbrev pub HasZeros : NumberedPrefix → Type 0
HasZeros row = EndsBehind row.prefix.address row.prefix.length

-- both ends are added to some numbers
pub record HasEndsToo (p : Prefix) (old new : List ℕ) : Type 0 where
  pub ends : HasEnds new p
  pub kept : (n : ℕ) → Contains old n → Contains new n

abbrev pub AddsEnds : Prefix → List ℕ → List ℕ → Result (Unit {0}) AllocError → Type 0
AddsEnds p old new result = OnOk result (HasEndsToo p old new)
