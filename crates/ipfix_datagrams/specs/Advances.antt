-- How far the sequence number of a domain advanced beside the records that came. It is the count, modulo 2^32, of all data
-- records that were sent before its message (RFC 7011, section 3.1).
use Rattle.std.specs.Prelude.{ℕ, ◌+◌, ◌-◌, ◌^◌, nat_lt, if◌then◌else◌, Option, Some, None, List, [], ◌∷◌, map, sum_by}
use Rattle.ipfix_message.specs.Domains.{Message}
use Rattle.ipfix_session.specs.Ledger.{capped, count_in, gap, sequence_behind, messages_of, domains_of}
use Rattle.ipfix_datagrams.specs.declared.domain_advance.DomainAdvance.{DomainAdvance}

-- how far it is forward to a sequence number, and the further one of the two; one in the upper half is earlier, and is of a
-- message that came late
abbrev pub forward : ℕ → ℕ → ℕ
forward from to = if nat_lt (gap from to) (2 ^ 31) then gap from to else 0

abbrev pub further : ℕ → ℕ → ℕ
further from to = if nat_lt (gap from to) (2 ^ 31) then to else from

-- how far messages go forward from a sequence number, each from the furthest before it; and the furthest
abbrev pub advance_from : ℕ → List Message → ℕ
advance_from from [] = 0
advance_from from (m ∷ ms) = forward from (sequence_behind m) + advance_from (further from (sequence_behind m)) ms

abbrev pub furthest_from : ℕ → List Message → ℕ
furthest_from from [] = from
furthest_from from (m ∷ ms) = furthest_from (further from (sequence_behind m)) ms

-- ---- the messages of a domain

-- from the sequence number of the first to just after the furthest
abbrev pub advance_of : List Message → ℕ
advance_of [] = 0
advance_of (m ∷ ms) = advance_from m.header.sequence (m ∷ ms)

abbrev pub furthest_of : List Message → Option ℕ
furthest_of [] = None
furthest_of (m ∷ ms) = Some (furthest_from m.header.sequence (m ∷ ms))

-- the data records that came
abbrev pub came_of : List Message → ℕ
came_of own = sum_by count_in own

-- those of the advance that didn't
abbrev pub missing_of : List Message → ℕ
missing_of own = advance_of own - came_of own

-- ---- the domains of a session

abbrev pub domain_advance : List Message → ℕ → DomainAdvance
domain_advance ms domain =
    let own = messages_of domain ms in
    record { domain = domain; advance = capped (advance_of own); came = capped (came_of own) }

-- in order of first appearance
abbrev pub advances_of : List Message → List DomainAdvance
advances_of ms = map (domain_advance ms) (domains_of ms)
