-- Numbers of addresses in steps: from each start on, up to the next one, all addresses have one number.
use Rattle.std.specs.Prelude.{ℕ, nat_le, zero, suc, List, slice_index}
use Rattle.std.specs.List.{prefix_len}

-- how many starts, from the first on, are not above an address
abbrev pub steps_to : List ℕ → ℕ → ℕ
steps_to starts address = prefix_len (λ start. nat_le start address) starts

-- the number of the last of so many steps, 0 before the first
abbrev pub number_after : List ℕ → ℕ → ℕ
number_after numbers zero = 0
number_after numbers (suc steps) = slice_index numbers steps

-- the number of an address
abbrev pub number_at : List ℕ → List ℕ → ℕ → ℕ
number_at starts numbers address = number_after numbers (steps_to starts address)
