-- The headline: each session's worker has received over its link exactly the data records that RFC 7011 gives for that
-- session's octets up to their end or first fault, each once, in export order, nothing after; and the table is the
-- aggregate of RFC 7015 of all these records, taken on one thread.
--
-- It has three parts: what was received, what was given, and what was added up.
use Rattle.std.specs.Prelude.{◌≡◌, ℕ, List, [], ◌∷◌, ◌++◌}
use Rattle.std.specs.List.{AllZip, flat_map}
use Rattle.ipfix_message.specs.declared.record.DataRecord.{DataRecord}
use Rattle.ipfix_session.specs.Drives.{IsGiven}
use Rattle.ipfix_session.specs.Sources.{SourceView}
use Rattle.ipfix_session.specs.declared.driver.TheConstants.{READ_LIMIT}
use Rattle.ipfix_session.specs.declared.report.SessionReport.{SessionReport}
use Rattle.flow_link.specs.Parcels.{items}
use Rattle.flow_link.specs.Settling.{settled_capacity, settled_sent, settled_received}
use Rattle.flow_link.specs.declared.parcel.Parcel.TheVariants.{Last}
use Rattle.flow_link.specs.declared.settled.Settled.{Settled}
use Rattle.flow_table.specs.Plans.{PlanValue}
use Rattle.flow_table.specs.Tables.{IsTable, IsTooLarge}
use Rattle.flow_table.specs.declared.table.Table.{Table}
use Rattle.flow_collect.specs.Places.{Each4}
use Rattle.flow_collect.specs.declared.collected.Pool.{Pool}
use Rattle.flow_collect.specs.declared.collected.Collected.{Collected}
use Rattle.flow_collect.specs.declared.collected.Serial.{Serial}

-- ---- what was received

-- the worker has received exactly these records over the session's link, each once, in export order, nothing after
pub record IsReceived (capacity : ℕ) (link : Settled) (records : List DataRecord) : Type 0 where
  -- the link has room for that many parcels
  pub capacity_is : settled_capacity link ≡ capacity
  -- the session sent the records as Items, and then Last
  pub sent_is : settled_sent link ≡ items records ++ Last ∷ []
  -- the worker took the same, in the same order
  pub received_is : settled_received link ≡ items records ++ Last ∷ []
  -- and nothing is left in the link
  pub left_is : link.left.items ≡ []

-- ---- what was given

-- the records are exactly those that RFC 7011 gives for the octets of the session's source up to their end or first fault.
-- `IsGiven` says so part by part:
--   the octets are what the source gave, in at most 2^40 reads: what it held before is these, and then what it holds after;
--   the records are all data records of their messages before the first malformed one;
--   the report counts these messages and records;
--   a fault stands in the report only if it is due (`IsDue`), and nothing is read after it;
--   memory that ran out in the session is the one exception: then records and report are of the first of these messages;
--   no report has SinkClosed
abbrev pub IsGivenBy : {S : Type 0} → (S → SourceView) → S → S → SessionReport → List DataRecord → Type 0
IsGivenBy seen before after report records = IsGiven seen READ_LIMIT before after report records

-- ---- what was added up

-- the table is the aggregate of these records, taken on one thread
pub record IsAddedUp (plan : PlanValue) (records : List DataRecord) (table : Table) : Type 0 where
  -- its rows are those of RFC 7015 (section 5), with the sums and the numbers of flows of all these records, and its tally
  -- counts them
  pub table_is : IsTable plan records table
  -- none of these numbers is 2^64 or more
  pub not_too_large : IsTooLarge plan records → ⊥

-- ---- the headline

-- the records of all sessions, session after session
abbrev pub all_of : List (List DataRecord) → List DataRecord
all_of records = flat_map (λ q. q) records

-- of a run in threads, with any number of workers and links of any capacity. `Gets` says which records a session's worker
-- gets, by the session's source as it was given, by what is left of it, and by its report
pub record HeadlineWith {A S R : Type 0} (Gets : A → S → R → List DataRecord → Type 0) (sources : List A) (plan : PlanValue) (pool : Pool) (c : Collected S R Table) : Type 0 where
  -- for each session there are records
  pub records : List (List DataRecord)
  -- which its worker received over its link, and nothing else
  pub received : AllZip (IsReceived pool.capacity) c.links.items records
  -- which are what it gets of the octets that its source gave, as its report tells
  pub given : Each4 Gets sources c.sources.items c.sessions.items records
  -- and of which all together the table is the aggregate
  pub added_up : IsAddedUp plan (all_of records) c.table

-- what `collect` answers
abbrev pub Answer : Type 0 → Type 0
Answer S = Collected S SessionReport Table

-- of a run without links, on one thread or in lots. `Gets` says which records a session gets, as above
pub record SerialHeadlineWith {A S R : Type 0} (Gets : A → S → R → List DataRecord → Type 0) (sources : List A) (plan : PlanValue) (s : Serial S R Table) : Type 0 where
  -- for each session there are records
  pub records : List (List DataRecord)
  -- which are what it gets of the octets that its source gave, as its report tells
  pub given : Each4 Gets sources s.sources.items s.sessions.items records
  -- and of which all together the table is the aggregate
  pub added_up : IsAddedUp plan (all_of records) s.table

-- what `collect_serial` answers
abbrev pub SerialAnswer : Type 0 → Type 0
SerialAnswer S = Serial S SessionReport Table

module _ {S : Type 0} (seen : S → SourceView) where
  -- the headline: a worker gets exactly the records of these octets
  abbrev pub Headline : List S → PlanValue → Pool → Answer S → Type 0
  Headline sources plan pool c = HeadlineWith (IsGivenBy seen) sources plan pool c

  -- and without links a session gets exactly these
  abbrev pub SerialHeadline : List S → PlanValue → SerialAnswer S → Type 0
  SerialHeadline sources plan s = SerialHeadlineWith (IsGivenBy seen) sources plan s

-- a run in threads, without its links
abbrev pub without_links : {S : Type 0} → Answer S → SerialAnswer S
without_links c = record { sessions = c.sessions; sources = c.sources; table = c.table }
