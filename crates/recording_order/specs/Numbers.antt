-- The sequence number that is due in a domain, and where others stand beside it (RFC 7011, section 3.1).
use Rattle.std.specs.Prelude.{ℕ, ◌+◌, ◌%◌, ◌^◌, ◌-◌, ◌==◌, ◌&&◌, Bool, false, not, nat_lt, nat_le, if◌then◌else◌, Option, Some, None}
use Rattle.ipfix_session.specs.Ledger.{gap}
use Rattle.recording_order.specs.declared.numbering.Numbering.{Numbering}
use Rattle.recording_order.specs.declared.numbering.Standing.{Standing}
use Rattle.recording_order.specs.declared.numbering.Standing.TheVariants.{AtOnce, Ahead, Afar}
use Rattle.recording_order.specs.declared.numbering.TheConstants.{FARTHEST}
use Rattle.recording_order.specs.declared.datagram_counts.DatagramCounts.{DatagramCounts}

-- where a number stands, modulo 2^32: the one that is due stands at 2^31, one before it below that, and one ahead of it above
abbrev pub place : ℕ → ℕ → ℕ
place due number = (gap due number + 2 ^ 31) % 2 ^ 32

-- it is at most so far away, either way
abbrev pub is_near : ℕ → Bool
is_near place = nat_le (2 ^ 31 - FARTHEST) place && nat_le place (2 ^ 31 + FARTHEST)

-- ---- a datagram's number beside those of its domain

abbrev pub beside : ℕ → Standing
beside place = if not (is_near place) then Afar else if nat_le place (2 ^ 31) then AtOnce else Ahead

-- none is due before the first, or after one with an unknown set
abbrev pub standing_of : Option Numbering → ℕ → Standing
standing_of None number = AtOnce
standing_of (Some n) number = if n.is_due then beside (place n.after number) else AtOnce

abbrev pub is_at_due : Option Numbering → ℕ → Bool
is_at_due None number = false
is_at_due (Some n) number = n.is_due && (n.after == number)

-- ---- after a datagram was written

-- the number after it: its own, and one more for each of its data records
abbrev pub number_after : ℕ → DatagramCounts → ℕ
number_after number c = (number + c.records) % 2 ^ 32

abbrev pub further : ℕ → ℕ → ℕ
further after number = if nat_lt (place after number) (2 ^ 31) then after else number

-- the number after the furthest; one that is far away begins anew, and so does one that comes where none is due
abbrev pub furthest : Numbering → ℕ → ℕ → ℕ
furthest n number after = if n.is_due && is_near (place n.after number) then further n.after after else after

abbrev pub numbers_after : Option Numbering → ℕ → DatagramCounts → Numbering
numbers_after None number c = record { after = number_after number c; is_due = c.unknown_sets == 0; doubled = 0; reordered = 0 }
numbers_after (Some n) number c = record n { after = furthest n number (number_after number c); is_due = c.unknown_sets == 0 }
