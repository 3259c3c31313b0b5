-- The loss ledger: what the sequence numbers of a domain's messages say (RFC 7011, section 3.1).
use Rattle.std.specs.Prelude.{ℕ, ◌+◌, ◌-◌, ◌^◌, ◌%◌, min, not, nat_lt, ◌==◌, if◌then◌else◌, Option, Some, None, List, [], ◌∷◌, length, map, filter, sum_by}
use Rattle.ipfix_message.specs.Domains.{Message}
use Rattle.ipfix_session.specs.declared.report.DomainReport.{DomainReport}

-- a count that stops at the greatest number of 64 bits
abbrev pub capped : ℕ → ℕ
capped n = min n (2 ^ 64 - 1)

-- how many data records a message has; template records aren't counted
abbrev pub count_in : Message → ℕ
count_in m = length m.decoding.records

-- the sequence number after a message: its own, and one more for each of its records
abbrev pub sequence_behind : Message → ℕ
sequence_behind m = (m.header.sequence + count_in m) % 2 ^ 32

-- the sequence number that is due in the domain after a message; unknown, if a data set's records
-- couldn't be counted
abbrev pub due_after : Message → Option ℕ
due_after m = if m.decoding.passed_over.unknown_sets == 0 then Some (sequence_behind m) else None

-- the sequence number after a message whose records couldn't all be counted, as if an unknown set had none
abbrev pub unsure_after : Message → Option ℕ
unsure_after m = if m.decoding.passed_over.unknown_sets == 0 then None else Some (sequence_behind m)

-- how far a sequence number is above the one that was due, modulo 2^32
abbrev pub gap : ℕ → ℕ → ℕ
gap due sequence = (sequence + (2 ^ 32 - due)) % 2 ^ 32

-- a gap in the lower half is of records that were lost, and one in the upper half is a step backward
abbrev pub lost_at : Option ℕ → ℕ → ℕ
lost_at None sequence = 0
lost_at (Some due) sequence = if nat_lt (gap due sequence) (2 ^ 31) then gap due sequence else 0

abbrev pub backward_at : Option ℕ → ℕ → ℕ
backward_at None sequence = 0
backward_at (Some due) sequence = if nat_lt (gap due sequence) (2 ^ 31) then 0 else 1

-- what two neighbouring messages of a domain add to its sums
abbrev pub lost_between : Message → Message → ℕ
lost_between m n = lost_at (due_after m) n.header.sequence

abbrev pub backward_between : Message → Message → ℕ
backward_between m n = backward_at (due_after m) n.header.sequence

-- the sum over each two neighbours
abbrev pub sum_neighbours : {X : Type 0} → (X → X → ℕ) → List X → ℕ
sum_neighbours f [] = 0
sum_neighbours f (x ∷ []) = 0
sum_neighbours f (x ∷ y ∷ xs) = f x y + sum_neighbours f (y ∷ xs)

-- what the last of a domain's messages says; nothing before the first
abbrev pub of_last : (Message → Option ℕ) → List Message → Option ℕ
of_last after [] = None
of_last after (m ∷ []) = after m
of_last after (m ∷ n ∷ ms) = of_last after (n ∷ ms)

-- the sequence number that is due after a domain's messages; unknown before the first
abbrev pub due_of : List Message → Option ℕ
due_of own = of_last due_after own

-- ---- the domains of a session

-- the messages of a domain
abbrev pub messages_of : ℕ → List Message → List Message
messages_of domain ms = filter (λ m. m.header.domain == domain) ms

-- each number once, where it first appears
abbrev pub first_appearances : List ℕ → List ℕ
first_appearances [] = []
first_appearances (x ∷ xs) = x ∷ filter (λ y. not (y == x)) (first_appearances xs)

abbrev pub domains_of : List Message → List ℕ
domains_of ms = first_appearances (map (λ m. m.header.domain) ms)

abbrev pub domain_report : List Message → ℕ → DomainReport
domain_report ms domain =
    let own = messages_of domain ms in
    record { domain = domain; count = capped (sum_by count_in own); lost = capped (sum_neighbours lost_between own); backward = capped (sum_neighbours backward_between own) }
