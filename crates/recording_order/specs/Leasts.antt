-- The least datagram of a domain: the nearest ahead of the number that is due, or the furthest before it.
use Rattle.std.specs.Prelude.{ℕ, ◌+◌, nat_le, if◌then◌else◌, List, [], ◌∷◌, Option, Some, None}
use Rattle.recording_order.specs.Arrivals.{Arrival, is_in}
use Rattle.recording_order.specs.Numbers.{place}
use Rattle.recording_order.specs.declared.least.Least.{Least}

-- of two at one place, that which came first
abbrev pub lesser : Option Least → Least → Option Least
lesser None x = Some x
lesser (Some l) x = if nat_le l.place x.place then Some l else Some x

abbrev pub found_at : ℕ → ℕ → Arrival → Least
found_at index due a = record { index = index; place = place due a.header.sequence; second = a.second }

abbrev pub one_more : ℕ → ℕ → ℕ → Option Least → Arrival → Option Least
one_more domain due index before a = if is_in domain a then lesser before (found_at index due a) else before

-- the least of one that was found before and of those from this index on
abbrev pub least_from : ℕ → ℕ → ℕ → Option Least → List Arrival → Option Least
least_from domain due index before [] = before
least_from domain due index before (a ∷ xs) = least_from domain due (index + 1) (one_more domain due index before a) xs

abbrev pub least_of : ℕ → ℕ → List Arrival → Option Least
least_of domain due xs = least_from domain due 0 None xs
