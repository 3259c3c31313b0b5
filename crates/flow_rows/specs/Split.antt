-- Rows with a number from a limit on.
use Rattle.std.specs.Prelude.{ℕ, Bool, nat_le}
use Rattle.std.specs.List.{list_any}
use Rattle.flow_rows.specs.Rows.{Row}

abbrev pub reaches : ℕ → Row → Bool
reaches limit x = list_any (λ (n : ℕ). nat_le limit n) x.numbers
