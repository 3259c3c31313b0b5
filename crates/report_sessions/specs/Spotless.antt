-- When a run is spotless: no sequence number, no set and no record says that anything which was sent isn't in the table.
use Rattle.std.specs.Prelude.{◌≡◌, ℕ, List, [], ◌∷◌, All, None}
use Rattle.flow_table.specs.declared.missing.Missing.{Missing}
use Rattle.flow_table.specs.declared.tally.Tally.{Tally}
use Rattle.ipfix_message.specs.Domains.{Message}
use Rattle.ipfix_session.specs.Ledger.{gap, sequence_behind, messages_of, domains_of}
use Rattle.ipfix_session.specs.declared.report.DomainBalance.{DomainBalance}
use Rattle.ipfix_session.specs.declared.report.DomainReport.{DomainReport}
use Rattle.ipfix_session.specs.declared.report.FullReport.{FullReport}

-- by the sequence numbers of a domain no data record was lost, and none came out of order (RFC 7011, section 3.1)
abbrev pub IsUnbroken : DomainReport → Type 0
IsUnbroken d = (d.lost ≡ 0) × (d.backward ≡ 0)

-- a session whose data sets all had their templates, and whose sequence numbers account for each data record
pub record IsSpotlessSession (full : FullReport) : Type 0 where
  -- its octets are whole messages without a fault, up to its end
  pub no_fault : full.report.fault ≡ None
  -- each domain has the sequence numbers that are due
  pub unbroken : All IsUnbroken full.report.domains.items
  -- each data set had a template in force (RFC 7011, section 9)
  pub none_unknown : full.report.unknown_sets ≡ 0
  -- each set has an id that RFC 7011, section 3.3.2, gives a meaning
  pub none_skipped : full.report.skipped_sets ≡ 0
  -- no sequence number went on after an unknown set
  pub none_unaccounted : All (λ (b : DomainBalance). b.unaccounted ≡ 0) full.balances.items

-- each data record that isn't about options was used
pub record IsSpotlessTally (t : Tally) : Type 0 where
  pub none_untimed : t.untimed ≡ 0
  pub none_backward : t.backward ≡ 0
  pub none_unkeyed : t.unkeyed ≡ 0
  pub none_too_long : t.too_long ≡ 0

-- and each used record had the counters of the plan
abbrev pub NoCounterLacks : Missing → Type 0
NoCounterLacks m = All (λ n. n ≡ 0) m.counters

-- sessions, the tally of their records, and what these lack
pub record IsSpotless (fulls : List FullReport) (t : Tally) (m : Missing) : Type 0 where
  pub sessions : All IsSpotlessSession fulls
  pub tally : IsSpotlessTally t
  pub counters : NoCounterLacks m

-- ---- what that says of a session's messages

-- each message has the sequence number that is due after the one before it (RFC 7011, section 3.1)
abbrev pub IsInSequence : List Message → Type 0
IsInSequence [] = Unit {0}
IsInSequence (m ∷ []) = Unit {0}
IsInSequence (m ∷ n ∷ ms) = (gap (sequence_behind m) n.header.sequence ≡ 0) × IsInSequence (n ∷ ms)

-- between the messages of each domain no data record is missing, and each set could be read
pub record IsUnbrokenStream (ms : List Message) : Type 0 where
  pub in_sequence : All (λ (domain : ℕ). IsInSequence (messages_of domain ms)) (domains_of ms)
  pub none_unknown : All (λ (m : Message). m.decoding.passed_over.unknown_sets ≡ 0) ms
  pub none_skipped : All (λ (m : Message). m.decoding.passed_over.skipped_sets ≡ 0) ms
