-- Octets that are put to a place.
use Rattle.std.specs.Prelude.{◌≡◌, ℕ, ◌+◌, List, ◌++◌, drop, length, take}

-- from the place up to `end` there are these octets now, and all others stay
pub record Placed (old new : List ℕ) (at : ℕ) (octets : List ℕ) (end : ℕ) : Type 0 where
  pub written : take end new ≡ take at old ++ octets
  pub behind : drop end new ≡ drop end old
  pub moved : end ≡ at + length octets
  pub room : length new ≡ length old
