-- What is kept, and what a datagram is offered as.
use Rattle.std.proofs.Common.{◌≡◌, ℕ, true, false, eqb, leb, List, [], ◌∷◌, ◌++◌, refl, sym}
use Rattle.recording_order.specs.Arrivals.{Arrival, octets_of, room_beside}
use Rattle.std.specs.Prelude.{◌&&◌}
use Rattle.recording_order.specs.DataSets.{has_data}
use Rattle.recording_order.specs.Numbers.{standing_of, is_at_due, numbers_after}
use Rattle.recording_order.specs.declared.datagram_counts.DatagramCounts.{DatagramCounts}
use Rattle.recording_order.specs.declared.numbering.Standing.{Standing}
use Rattle.recording_order.specs.declared.offer.Offer.TheVariants.{Doubled}
use Rattle.recording_order.specs.Windows.{WindowView, fitting, at_most, with_last, with_doubled, is_doubled, numbering, renumbered, after_writing, offered, offered_as}

-- those that fit stay
pub fitting-fits : (room : ℕ) (xs : List Arrival) → true ≡ leb (octets_of xs) room → fitting room xs ≡ xs
fitting-fits room [] fits = refl
fitting-fits room (a ∷ xs) fits = rw (sym fits) refl

pub kept : (w : WindowView) (a : Arrival) (pushed limited last : List Arrival) (domain room : ℕ) → domain ≡ a.header.domain → pushed ≡ w.last ++ a ∷ [] → limited ≡ at_most domain pushed → room ≡ room_beside 65536 w.waiting → last ≡ fitting room limited
    → record w { last = last } ≡ with_last w a
kept w a pushed limited last domain room is_domain is_pushed is_limited is_room is_last = rw (is_last, is_limited, is_pushed, is_domain, is_room) refl

pub offered-doubled : (w : WindowView) (a : Arrival) → eqb w.seconds 0 ≡ false → true ≡ is_doubled w a.header.domain a.octets → offered w a ≡ (Doubled, with_doubled w a.header.domain)
offered-doubled w a waits doubled = rw (waits, sym doubled) refl

pub offered-other : (w : WindowView) (a : Arrival) (s : Standing) → eqb w.seconds 0 ≡ false → false ≡ is_doubled w a.header.domain a.octets → s ≡ standing_of (numbering w a.header.domain) a.header.sequence → offered w a ≡ offered_as w a s
offered-other w a s waits other is = rw (waits, sym other, sym is) refl

-- one that is among the last ones, and one that isn't
pub noted-last : (w v : WindowView) (a : Arrival) (c : DatagramCounts) → eqb w.seconds 0 ≡ false → (is_at_due (numbering w a.header.domain) a.header.sequence && has_data a.octets) ≡ true → v ≡ with_last w a
    → renumbered v a.header.domain (numbers_after (numbering w a.header.domain) a.header.sequence c) ≡ after_writing w a c
noted-last w v a c waits due is = rw (is, waits, due) refl

pub noted-other : (w v : WindowView) (a : Arrival) (c : DatagramCounts) → eqb w.seconds 0 ≡ false → (is_at_due (numbering w a.header.domain) a.header.sequence && has_data a.octets) ≡ false → v ≡ w
    → renumbered v a.header.domain (numbers_after (numbering w a.header.domain) a.header.sequence c) ≡ after_writing w a c
noted-other w v a c waits due is = rw (is, waits, due) refl
