-- The datagrams of a peer that come late (RFC 7011, section 8.2).
use Rattle.std.specs.Prelude.{◌≡◌, ◌⊎◌, ◌&&◌, ℕ, Bool, true, false, nat_lt, List, [], ◌∷◌, None, Ok, Err}
use Rattle.ipfix_wire.specs.declared.header.Header.{Header}
use Rattle.ipfix_message.specs.declared.fault.MessageFault.{MessageFault}
use Rattle.ipfix_message.specs.Domains.{History}
use Rattle.ipfix_message.specs.Outcome.{Read}
use Rattle.ipfix_datagrams.specs.Datagrams.{IsRefused}
use Rattle.ipfix_datagrams.specs.Late.{FailsLate, IsReadLate, Times, Withheld, is_before, later_in, moment_of, times_after}
use Rattle.ipfix_datagrams.specs.Reaches.{furthest_in, reaches_of}
use Rattle.recording_peer.specs.Peers.{Resumed, Taken, basis_with, givens, known_after_all}

-- when the template of each id was defined, after datagrams in turn
abbrev pub times_from : Times → History → List Taken → Times
times_from old ds [] = old
times_from old ds (t ∷ ts) = times_from (times_after old ds t.datagram t.given.header.domain (moment_of t.given.header t.second)) t.given.domains ts

abbrev pub never : Times
never domain id = None

abbrev pub times_of : List Taken → Times
times_of ts = times_from never [] ts

-- a datagram comes late after these: its sequence number is before the one after the furthest of its domain. With 0 seconds none does
abbrev pub is_late : ℕ → List Taken → Header → Bool
is_late reorder ts h = nat_lt 0 reorder && is_before (furthest_in (reaches_of (givens ts)) h.domain) h.sequence

-- the ids of its domain whose template was sent after it, and taken at most so many seconds before it
abbrev pub withheld : ℕ → List Taken → Header → ℕ → Withheld
withheld reorder ts h second = later_in reorder (moment_of h second) (times_of ts h.domain)

-- the ids of each domain that have no template
abbrev pub Barred : Type 0
Barred = ℕ → List ℕ

-- a datagram is read where these ids have none: one that isn't late, where just those of its domain have none
abbrev pub ReadWhere : Bool → Withheld → List ℕ → History → List ℕ → ℕ → List ℕ → Type 0
ReadWhere false held old ds m domain barred = barred ≡ old
ReadWhere true held old ds m domain barred = IsReadLate held old ds m domain barred

abbrev pub IsReadWhere : ℕ → List Taken → Barred → ℕ → List ℕ → Header → List ℕ → Type 0
IsReadWhere reorder ts old second m h barred = ReadWhere (is_late reorder ts h) (withheld reorder ts h second) (old h.domain) (known_after_all ts) m h.domain barred

-- it is refused since it is late, or where these ids have none
abbrev pub IsRefusedLate : ℕ → List Taken → ℕ → List ℕ → Header → MessageFault → Type 0
IsRefusedLate reorder ts second m h f = (is_late reorder ts h ≡ true) × FailsLate (withheld reorder ts h second) (known_after_all ts) m h.domain f

abbrev pub IsRefusedAt : ℕ → List Taken → Barred → Resumed → ℕ → List ℕ → MessageFault → Read Header → Type 0
IsRefusedAt reorder ts old resumed second m f (Err fault) = IsRefused (basis_with resumed []) (known_after_all ts) m f
IsRefusedAt reorder ts old resumed second m f (Ok h) =
    IsRefusedLate reorder ts second m h f ⊎ ((barred : List ℕ) × IsReadWhere reorder ts old second m h barred × IsRefused (basis_with resumed barred) (known_after_all ts) m f)
