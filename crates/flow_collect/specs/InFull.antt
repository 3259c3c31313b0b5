-- What a worker gets if sessions report in full, and what a run is without the rest.
use Rattle.std.specs.Prelude.{◌≡◌, ◌+◌, ◌-◌, ◌%◌, ◌^◌, ◌<◌, List, ◌∷◌, length, map, All, Option}
use Rattle.std.specs.Borrow.{Bor}
use Rattle.std.specs.List.{AllZip}
use Rattle.ipfix_message.specs.Domains.{Message}
use Rattle.ipfix_message.specs.declared.record.DataRecord.{DataRecord}
use Rattle.ipfix_session.specs.Balances.{sequence_at_end}
use Rattle.ipfix_session.specs.Drives.{IsGivenWithin}
use Rattle.ipfix_session.specs.Ledger.{messages_of}
use Rattle.ipfix_session.specs.Places.{ReportsInFull}
use Rattle.ipfix_session.specs.Sources.{SourceView}
use Rattle.ipfix_session.specs.declared.report.DomainBalance.{DomainBalance}
use Rattle.ipfix_session.specs.declared.report.DomainReport.{DomainReport}
use Rattle.ipfix_session.specs.declared.report.FullReport.{FullReport}
use Rattle.ipfix_session.specs.declared.report.SessionReport.{SessionReport}
use Rattle.flow_table.specs.Plans.{PlanValue}
use Rattle.flow_table.specs.SameTables.{IsSameTable}
use Rattle.flow_table.specs.declared.table.Table.{Table}
use Rattle.flow_filter.specs.Sinks.{counted}
use Rattle.flow_filter.specs.declared.filter.Filter.{Filter}
use Rattle.flow_collect.specs.Contexts.{all_in_context, counted_in, great_in, known_in, left_out_in, limits_in, noted_in, times_in}
use Rattle.flow_collect.specs.Rated.{Tells}
use Rattle.flow_collect.specs.Headline.{Answer, HeadlineWith, IsAddedUp, SerialHeadlineWith}
use Rattle.flow_collect.specs.Places.{Each4}
use Rattle.flow_collect.specs.declared.collected.Pool.{Pool}
use Rattle.flow_collect.specs.declared.collected.Collected.{Collected}
use Rattle.flow_collect.specs.declared.collected.FilteredReport.{FilteredReport}
use Rattle.flow_collect.specs.declared.collected.Serial.{Serial}
use Rattle.flow_collect.specs.declared.session_context.InContext.{InContext}

-- what `collect_flat` answers
abbrev pub FullAnswer : Type 0 → Type 0
FullAnswer S = Collected S FilteredReport Table

-- what `collect_direct` answers
abbrev pub FullSerialAnswer : Type 0 → Type 0
FullSerialAnswer S = Serial S FilteredReport Table

-- the reports in full, without how many records were left out
abbrev pub fulls_in : List FilteredReport → List FullReport
fulls_in reports = map (λ (told : FilteredReport). told.full) reports

-- the reports as they are without the rest
abbrev pub reports_in : List FullReport → List SessionReport
reports_in fulls = map (λ (full : FullReport). full.report) fulls

-- the ledger of a domain of these messages balances: from before its first message to after its last, the exporter's
-- sequence number advanced, modulo 2^32, by the records that came, those that were lost and those that are unaccounted
-- for, if it never stepped backward, no message after an unknown set was late, and no count has stopped (RFC 7011, section 3.1)
pub record IsBalanced (ms : List Message) (report : DomainReport) (balance : DomainBalance) : Type 0 where
  pub domain_is : balance.domain ≡ report.domain
  pub balances : (first : Message) (more : List Message) → messages_of report.domain ms ≡ first ∷ more
      → report.backward ≡ 0 → balance.late ≡ 0 → report.count < 2 ^ 64 - 1 → report.lost < 2 ^ 64 - 1 → balance.unaccounted < 2 ^ 64 - 1
      → (first.header.sequence + report.count + report.lost + balance.unaccounted) % 2 ^ 32 ≡ sequence_at_end first more

module _ {S : Type 0} (seen : S → SourceView) where
  -- the records are those of the octets that the source gave, as the report tells, up to their end or first fault; a message
  -- after which the session's templates would count more than its context allows has the fault `TooManyFields` (without a limit
  -- this is `IsGivenBy` of the headline). And of the messages that the report counts the full report tells the rest: what each
  -- domain passed over, the gaps after its unknown sets, and where the session stopped
  pub record IsGivenInFull (before : InContext S) (after : S) (full : FullReport) (records : List DataRecord) : Type 0 where
    pub given : IsGivenWithin seen (limits_in before.context) before.source after full.report records
    pub told : ReportsInFull full given.counted (length records)

  -- and with context: of the records that the source gave, each with what its session knows after its own fields, these are
  -- the ones that the session's filter counts, each once and in order; and the report tells how many others there were, and
  -- at which rates those are sampled that count, and of their times, and whether one has a great counter
  pub record IsGivenInContext (before : InContext S) (after : S) (told : FilteredReport) (records : List DataRecord) : Type 0 where
    pub own : List DataRecord
    pub given : IsGivenInFull before after told.full own
    pub records_are : records ≡ counted_in before own
    pub filtered_is : told.filtered ≡ left_out_in before own
    pub sampling_is : Tells (known_in before own) (noted_in before own) told.sampling
    pub times_is : told.times ≡ times_in before own
    pub great_is : told.is_great ≡ great_in before own

  -- the headline, if a worker gets these records
  abbrev pub FullHeadline : List (InContext S) → PlanValue → Pool → FullAnswer S → Type 0
  FullHeadline sources plan pool c = HeadlineWith IsGivenInContext sources plan pool c

  -- and without links
  abbrev pub FullSerialHeadline : List (InContext S) → PlanValue → FullSerialAnswer S → Type 0
  FullSerialHeadline sources plan s = SerialHeadlineWith IsGivenInContext sources plan s

  -- a run without links, of sessions that all have this filter
  pub record HasOneFilter (f : Option (Bor Filter)) (sources : List (InContext S)) (plan : PlanValue) (s : FullSerialAnswer S) : Type 0 where
    pub headline : FullSerialHeadline sources plan s
    pub same : All (λ (source : InContext S). source.filter ≡ f) sources

  -- of all records that the sources gave, each with what its session knows, the table is the aggregate of those that this
  -- filter counts
  pub record IsOfCounted (f : Option (Bor Filter)) (sources : List (InContext S)) (plan : PlanValue) (s : FullSerialAnswer S) : Type 0 where
    pub own : List (List DataRecord)
    pub given : Each4 IsGivenInFull sources s.sources.items (fulls_in s.sessions.items) own
    pub added_up : IsAddedUp plan (counted f (all_in_context sources own)) s.table

  -- each domain's ledger balances, of the messages that the report counts
  pub record HasBalanced (before : InContext S) (after : S) (told : FilteredReport) (records : List DataRecord) : Type 0 where
    pub given : IsGivenInContext before after told records
    pub balanced : AllZip (IsBalanced given.given.given.counted) told.full.report.domains.items told.full.balances.items

-- the same run, with reports that aren't in full, and a table that says the same
pub record IsWithoutRest {S : Type 0} (c : FullAnswer S) (short : Answer S) : Type 0 where
  pub sessions_are : short.sessions.items ≡ reports_in (fulls_in c.sessions.items)
  pub links_are : short.links ≡ c.links
  pub sources_are : short.sources ≡ c.sources
  pub same : IsSameTable c.table short.table
