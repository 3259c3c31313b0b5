-- Datagrams that came, and lists of them.
use Rattle.std.specs.Prelude.{◌≡◌, ℕ, ◌-◌, ◌==◌, ◌&&◌, Bool, List, length, sum_by, count_by}
use Rattle.std.specs.List.{list_any}
use Rattle.std.specs.Str.{bytes_eq}
use Rattle.ipfix_wire.specs.declared.header.Header.{Header}

-- a datagram, what its header says, and the second at which it came
pub record Arrival : Type 0 where
  pub header : Header
  pub second : ℕ
  pub octets : List ℕ

abbrev pub arrival : Header → ℕ → List ℕ → Arrival
arrival header second octets = record { header = header; second = second; octets = octets }

abbrev pub is_in : ℕ → Arrival → Bool
is_in domain a = a.header.domain == domain

-- how many of a domain there are
abbrev pub count_in : ℕ → List Arrival → ℕ
count_in domain xs = count_by (is_in domain) xs

abbrev pub octets_of : List Arrival → ℕ
octets_of xs = sum_by (λ a. length a.octets) xs

-- the octets that are left of a room beside them
abbrev pub room_beside : ℕ → List Arrival → ℕ
room_beside room xs = room - octets_of xs

-- two lists have the same datagrams, each as often: whatever weights are given to datagrams, those of both add up to the same
abbrev pub HaveSame : List Arrival → List Arrival → Type 0
HaveSame xs ys = (weight : Arrival → ℕ) → sum_by weight xs ≡ sum_by weight ys

-- whether one of a domain has these octets, each the same
abbrev pub has_octets : ℕ → List ℕ → Arrival → Bool
has_octets domain octets a = is_in domain a && bytes_eq a.octets octets

abbrev pub is_among : ℕ → List ℕ → List Arrival → Bool
is_among domain octets xs = list_any (has_octets domain octets) xs
