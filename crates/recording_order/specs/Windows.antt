-- What is kept of a peer's datagrams, and what is done with one that comes.
use Rattle.std.specs.Prelude.{◌≡◌, ℕ, ◌+◌, ◌-◌, ◌^◌, ◌==◌, ◌&&◌, ◌||◌, Bool, true, false, not, nat_eq, nat_lt, nat_le, if◌then◌else◌, List, [], ◌∷◌, ◌++◌, length, take, remove, slice_get, find, Option, Some, None, Result, IfOk, is_some, option_map}
use Rattle.std.specs.List.{list_any, position_from}
use Rattle.std.specs.Map.{lookup}
use Rattle.std.specs.Option.{ForSome, option_map_or}
use Rattle.indexmap.specs.IndexMap.{insert_entry}
use Rattle.ipfix_session.specs.Ledger.{capped}
use Rattle.ipfix_wire.specs.declared.header.Header.{Header}
use Rattle.recording_order.specs.Arrivals.{Arrival, is_in, count_in, octets_of, room_beside, is_among}
use Rattle.recording_order.specs.DataSets.{has_data}
use Rattle.recording_order.specs.Leasts.{least_of}
use Rattle.recording_order.specs.Numbers.{place, standing_of, is_at_due, numbers_after}
use Rattle.recording_order.specs.declared.datagram_counts.DatagramCounts.{DatagramCounts}
use Rattle.recording_order.specs.declared.least.Least.{Least}
use Rattle.recording_order.specs.declared.limits.TheConstants.{MOST_WAITING, MOST_LAST, ROOM}
use Rattle.recording_order.specs.declared.numbering.Numbering.{Numbering}
use Rattle.recording_order.specs.declared.numbering.Standing.{Standing}
use Rattle.recording_order.specs.declared.numbering.Standing.TheVariants.{AtOnce, Ahead, Afar}
use Rattle.recording_order.specs.declared.offer.Offer.{Offer}
use Rattle.recording_order.specs.declared.offer.Offer.TheVariants.{Write, Waits, Doubled, First, Anew}

-- for how many seconds a datagram waits at least; the numbers of each domain; the datagrams that wait, in the order in which they came; and
-- the last ones that were written at the due number
pub record WindowView : Type 0 where
  pub seconds : ℕ
  pub numbers : List (ℕ × Numbering)
  pub waiting : List Arrival
  pub last : List Arrival

-- ---- the numbers of a domain

abbrev pub numbering : WindowView → ℕ → Option Numbering
numbering w domain = lookup (nat_eq domain) w.numbers

abbrev pub renumbered : WindowView → ℕ → Numbering → WindowView
renumbered w domain n = record w { numbers = insert_entry nat_eq w.numbers domain n }

-- the number that is due, and whether one is
abbrev pub due_number : WindowView → ℕ → ℕ
due_number w domain = option_map_or (λ n. n.after) (numbering w domain) 0

abbrev pub is_due : WindowView → ℕ → Bool
is_due w domain = option_map_or (λ n. n.is_due) (numbering w domain) false

-- what is counted of a domain that has numbers
abbrev pub counted : WindowView → ℕ → Option Numbering → WindowView
counted w domain None = w
counted w domain (Some n) = renumbered w domain n

abbrev pub one_doubled : Numbering → Numbering
one_doubled n = record n { doubled = capped (n.doubled + 1) }

abbrev pub one_reordered : Numbering → Numbering
one_reordered n = record n { reordered = capped (n.reordered + 1) }

abbrev pub with_doubled : WindowView → ℕ → WindowView
with_doubled w domain = counted w domain (option_map one_doubled (numbering w domain))

abbrev pub with_reordered : WindowView → ℕ → WindowView
with_reordered w domain = counted w domain (option_map one_reordered (numbering w domain))

-- one of a domain passes these, which came earlier
abbrev pub passing : WindowView → ℕ → List Arrival → WindowView
passing w domain earlier = if list_any (is_in domain) earlier then with_reordered w domain else w

-- ---- datagrams that leave

-- the least that waits of a domain
abbrev pub least : WindowView → ℕ → Option Least
least w domain = least_of domain (due_number w domain) w.waiting

-- the one at an index leaves, and passes those of its domain that came earlier
abbrev pub without : WindowView → ℕ → Arrival → WindowView
without w index a = passing (record w { waiting = remove w.waiting index }) a.header.domain (take index w.waiting)

-- what leaves, and what is left then
abbrev pub leaving : WindowView → Option Least → Option (Arrival × WindowView)
leaving w None = None
leaving w (Some l) = option_map (λ a. (a, without w l.index a)) (slice_get w.waiting l.index)

-- the least of a domain is to be written at this second: it is at the due number or before that, or none is due, or its time is over
abbrev pub is_ripe : WindowView → ℕ → ℕ → Least → Bool
is_ripe w domain second l = not (is_due w domain) || (nat_le l.place (2 ^ 31) || nat_lt w.seconds (second - l.second))

abbrev pub if_ripe : WindowView → ℕ → ℕ → Option Least → Option Least
if_ripe w domain second None = None
if_ripe w domain second (Some l) = if is_ripe w domain second l then Some l else None

abbrev pub ripe : WindowView → ℕ → ℕ → Option Least
ripe w domain second = if_ripe w domain second (least w domain)

abbrev pub next_of : WindowView → ℕ → ℕ → Option (Arrival × WindowView)
next_of w domain second = leaving w (ripe w domain second)

-- the domain of the first whose time is over, where the least of its domain is to be written
abbrev pub is_late : WindowView → ℕ → Arrival → Bool
is_late w second a = nat_lt w.seconds (second - a.second) && is_some (ripe w a.header.domain second)

abbrev pub late_domain : WindowView → ℕ → Option ℕ
late_domain w second = option_map (λ a. a.header.domain) (find (is_late w second) w.waiting)

-- the least of a domain, whatever is due
abbrev pub least_in : WindowView → ℕ → Option (Arrival × WindowView)
least_in w domain = leaving w (least w domain)

-- at the end, that of the domain of the first that waits
abbrev pub last_of : WindowView → List Arrival → Option (Arrival × WindowView)
last_of w [] = None
last_of w (a ∷ xs) = least_in w a.header.domain

abbrev pub NoneWaits : WindowView → Type 0
NoneWaits w = w.waiting ≡ []

-- one fewer waits then
abbrev pub OneHasLeft : WindowView → WindowView → Type 0
OneHasLeft before after = length after.waiting + 1 ≡ length before.waiting

-- so it is with the one that leaves, if one does
abbrev pub LeavesOneFewer : WindowView → Option (Arrival × WindowView) → Type 0
LeavesOneFewer w o = ForSome o (λ x. OneHasLeft w x.1)

-- what a call answers that lets a datagram leave, and what is left then
abbrev pub Leaves : Option (Arrival × WindowView) → WindowView → Option Arrival → WindowView → Type 0
Leaves None before result after = (result ≡ None) × (after ≡ before)
Leaves (Some x) before result after = (result ≡ Some x.0) × (after ≡ x.1)

-- ---- the last datagrams

-- the oldest go until the others take no more than a room
abbrev pub fitting : ℕ → List Arrival → List Arrival
fitting room [] = []
fitting room (a ∷ xs) = if nat_le (octets_of (a ∷ xs)) room then a ∷ xs else fitting room xs

-- the oldest of a domain goes, if there are too many of it
abbrev pub without_first : List Arrival → Option ℕ → List Arrival
without_first xs None = xs
without_first xs (Some index) = remove xs index

abbrev pub at_most : ℕ → List Arrival → List Arrival
at_most domain xs = if nat_le (count_in domain xs) MOST_LAST then xs else without_first xs (position_from (is_in domain) 0 xs)

-- with one more: those of a domain are few, and all take what those that wait leave of the room
abbrev pub with_last : WindowView → Arrival → WindowView
with_last w a = record w { last = fitting (room_beside ROOM w.waiting) (at_most a.header.domain (w.last ++ a ∷ [])) }

-- ---- a datagram that comes

-- it is doubled: it has a data set, and is the same as one that waits or one of the last
abbrev pub is_doubled : WindowView → ℕ → List ℕ → Bool
is_doubled w domain octets = has_data octets && (is_among domain octets w.waiting || is_among domain octets w.last)

-- of each that is doubled: of a domain, with these octets
abbrev pub ForDoubled : WindowView → (ℕ → List ℕ → Type 0) → Type 0
ForDoubled w P = (domain : ℕ) (octets : List ℕ) → is_doubled w domain octets ≡ true → P domain octets

-- there is room for one more of a domain, with so many octets
abbrev pub has_room : WindowView → ℕ → ℕ → Bool
has_room w domain size = nat_lt (count_in domain w.waiting) MOST_WAITING && nat_le size (room_beside ROOM w.waiting)

-- it waits, and the last ones take what is left of the room
abbrev pub held : WindowView → Arrival → WindowView
held w a =
    let waiting = w.waiting ++ a ∷ [] in
    record w { waiting = waiting; last = fitting (room_beside ROOM waiting) w.last }

abbrev pub Offered : Type 0
Offered = Offer × WindowView

abbrev pub now : WindowView → ℕ → Offered
now w domain = (Write, passing w domain w.waiting)

-- the one that leaves is first, if one does
abbrev pub first_or : Offered → Option (Arrival × WindowView) → Offered
first_or other None = other
first_or other (Some x) = (First x.0, x.1)

-- there is no room: the least of those that wait and itself is written
abbrev pub offered_full : WindowView → Header → Option Least → Offered
offered_full w h None = now w h.domain
offered_full w h (Some l) =
    if nat_le l.place (place (due_number w h.domain) h.sequence) then first_or (now w h.domain) (leaving w (Some l)) else now w h.domain

abbrev pub if_ahead : WindowView → Arrival → Offered
if_ahead w a = if has_room w a.header.domain (length a.octets) then (Waits, held w a) else offered_full w a.header (least w a.header.domain)

abbrev pub offered_as : WindowView → Arrival → Standing → Offered
offered_as w a AtOnce = now w a.header.domain
offered_as w a Ahead = if_ahead w a
offered_as w a Afar = (Anew, w)

-- what is to be done with it, and what is kept then
abbrev pub offered : WindowView → Arrival → Offered
offered w a =
    if w.seconds == 0 then (Write, w)
    else if is_doubled w a.header.domain a.octets then (Doubled, with_doubled w a.header.domain)
    else offered_as w a (standing_of (numbering w a.header.domain) a.header.sequence)

-- this is what a call answered that was to offer one, and what it left
abbrev pub IsOffer : {E : Type 0} → Result Offer E → WindowView → Offered → Type 0
IsOffer result after o = IfOk result (λ offer. (offer, after) ≡ o)

-- ---- after it was written

abbrev pub noted : WindowView → Arrival → Option Numbering → DatagramCounts → WindowView
noted w a n c =
    let after = renumbered w a.header.domain (numbers_after n a.header.sequence c) in
    if is_at_due n a.header.sequence && has_data a.octets then with_last after a else after

abbrev pub after_writing : WindowView → Arrival → DatagramCounts → WindowView
after_writing w a c = if w.seconds == 0 then w else noted w a (numbering w a.header.domain) c
