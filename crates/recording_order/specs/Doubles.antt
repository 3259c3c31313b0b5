-- Datagrams that came already.
use Rattle.std.specs.Prelude.{◌≡◌, ℕ, List, Contains}
use Rattle.recording_order.specs.Arrivals.{Arrival}

-- one of these is of the domain, and has these octets
pub record IsSameAsOne (xs : List Arrival) (number : ℕ) (text : List ℕ) : Type 0 where
  pub one : Arrival
  pub among : Contains xs one
  pub domain : one.header.domain ≡ number
  pub octets : one.octets ≡ text
