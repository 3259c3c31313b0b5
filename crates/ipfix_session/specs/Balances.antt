-- What balances the ledger of a domain: the sets that were passed over, and the gaps that they leave unexplained.
use Rattle.std.specs.Prelude.{◌≡◌, ℕ, ◌+◌, ◌-◌, ◌%◌, ◌^◌, ◌<◌, List, [], ◌∷◌}
use Rattle.ipfix_message.specs.Domains.{Message}
use Rattle.ipfix_session.specs.declared.report.DomainBalance.{DomainBalance}
use Rattle.ipfix_session.specs.Ledger.{capped, lost_at, backward_at, sequence_behind, unsure_after, messages_of, domain_report, sum_neighbours}
use Rattle.ipfix_session.specs.Reports.{passed_over_in}

-- the gap between two neighbouring messages of a domain, if the earlier one had an unknown set: in the lower half it is of
-- records that are unaccounted for, and in the upper half the later message is late
abbrev pub unaccounted_between : Message → Message → ℕ
unaccounted_between m n = lost_at (unsure_after m) n.header.sequence

abbrev pub late_between : Message → Message → ℕ
late_between m n = backward_at (unsure_after m) n.header.sequence

-- what a domain's messages passed over; and after those that had an unknown set the sum of the gaps, and how many were late
abbrev pub domain_balance : List Message → ℕ → DomainBalance
domain_balance ms domain =
    let own = messages_of domain ms in
    record { domain = domain; passed_over = passed_over_in own; unaccounted = capped (sum_neighbours unaccounted_between own); late = capped (sum_neighbours late_between own) }

-- the sequence number after the last of these messages
abbrev pub sequence_at_end : Message → List Message → ℕ
sequence_at_end m [] = sequence_behind m
sequence_at_end m (n ∷ ms) = sequence_at_end n ms

-- ---- what the sequence numbers of a domain advance by

-- a domain never stepped backward, no message of it was late, and none of its counts has stopped at 2^64 - 1
pub record KeepsCount (ms : List Message) (domain : ℕ) : Type 0 where
  pub none_backward : (domain_report ms domain).backward ≡ 0
  pub none_late : (domain_balance ms domain).late ≡ 0
  pub count : (domain_report ms domain).count < 2 ^ 64 - 1
  pub lost : (domain_report ms domain).lost < 2 ^ 64 - 1
  pub unaccounted : (domain_balance ms domain).unaccounted < 2 ^ 64 - 1

-- the records of a domain that came, those that were lost, and those that are unaccounted for
abbrev pub accounted_for : List Message → ℕ → ℕ
accounted_for ms domain = (domain_report ms domain).count + (domain_report ms domain).lost + (domain_balance ms domain).unaccounted

-- from before the first of a domain's messages to after the last its sequence number advanced by so many, modulo 2^32
-- (RFC 7011, section 3.1)
abbrev pub AdvanceBy : ℕ → List Message → Type 0
AdvanceBy records [] = Unit {0}
AdvanceBy records (first ∷ more) = (first.header.sequence + records) % 2 ^ 32 ≡ sequence_at_end first more

-- the ledger of a domain balances: its sequence number advanced by the records that are accounted for
abbrev pub Balances : List Message → ℕ → Type 0
Balances ms domain = AdvanceBy (accounted_for ms domain) (messages_of domain ms)
