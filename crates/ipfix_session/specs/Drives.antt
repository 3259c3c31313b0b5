-- Driving a session: reading a source piece by piece, and feeding the session.
use Rattle.std.specs.Prelude.{◌≡◌, ◌≢◌, ℕ, ◌+◌, ◌-◌, ◌^◌, ◌≤◌, ◌⊎◌, true, List, ◌++◌, length, Option, Some, None}
use Rattle.std.specs.Io.KnownBytes.{Consumes}
use Rattle.ipfix_message.specs.Domains.{Message}
use Rattle.ipfix_message.specs.declared.fault.MessageFault.TheVariants.{OutOfMemory}
use Rattle.ipfix_message.specs.declared.record.DataRecord.{DataRecord}
use Rattle.ipfix_session.specs.declared.driver.TheConstants.{READ_SIZE}
use Rattle.ipfix_session.specs.declared.session_limits.SessionLimits.{SessionLimits}
use Rattle.ipfix_session.specs.declared.report.SessionReport.{SessionReport}
use Rattle.ipfix_session.specs.declared.report.FullReport.{FullReport}
use Rattle.ipfix_session.specs.declared.stop.Stop.TheVariants.{Clean, Short, Fault}
use Rattle.ipfix_session.specs.declared.fault.SessionFault.{SessionFault}
use Rattle.ipfix_session.specs.declared.fault.SessionFault.TheVariants as faults
use Rattle.ipfix_session.specs.Given.{given_within, records_in, records_within, stop_within, IsOpen, IsPrefix}
use Rattle.ipfix_session.specs.Sources.{SourceView, one_more}
use Rattle.ipfix_session.specs.Sinks.{SinkView, Takes}
use Rattle.ipfix_session.specs.Feeding.{PutsWhole, RunsOut, IsRefused}
use Rattle.ipfix_session.specs.Reports.{Reports}
use Rattle.ipfix_session.specs.Places.{ReportsInFull}

-- a session that may make so many reads, and whose templates may count anything
abbrev pub unlimited : ℕ → SessionLimits
unlimited reads = record { reads = reads; templates = None }

-- ---- what a source and its octets say

-- a report has no fault, or this one, only if the octets that the source gave, and the source, say so
abbrev pub IsDueWithin : Option SessionFault → SessionLimits → List ℕ → SourceView → SourceView → Type 0
-- no fault: the octets are whole messages (RFC 7011, section 3.1), the source has shown its end, and no read failed
IsDueWithin None limits gave before after = (stop_within limits.templates gave ≡ Clean) × (after.ended ≡ true) × (after.failed ≡ before.failed)
-- the octets end within a message, the source has shown its end, and no read failed
IsDueWithin (Some faults.Truncated) limits gave before after = (stop_within limits.templates gave ≡ Short) × (after.ended ≡ true) × (after.failed ≡ before.failed)
-- the octets have no malformed message, and a read failed
IsDueWithin (Some faults.ReadFailed) limits gave before after = IsOpen (stop_within limits.templates gave) × (after.failed ≡ one_more before.failed)
-- the octets have no malformed message, there were as many reads as were allowed, or the source can't count any more of
-- them, and none of them failed or showed the end
IsDueWithin (Some faults.TooManyReads) limits gave before after =
    IsOpen (stop_within limits.templates gave) × ((after.reads ≡ before.reads + limits.reads) ⊎ (after.reads ≡ 2 ^ 64 - 1)) × (after.failed ≡ before.failed) × (after.ended ≡ before.ended)
-- memory ran out, or the sink gave a record back, which neither the octets nor the source can say
IsDueWithin (Some (faults.Message OutOfMemory)) limits gave before after = Unit {0}
IsDueWithin (Some faults.SinkClosed) limits gave before after = Unit {0}
-- the first malformed message of the octets has this fault (RFC 7011, section 9.1), or leaves more templates than the limit
-- allows
IsDueWithin (Some (faults.Message e)) limits gave before after = stop_within limits.templates gave ≡ Fault e

abbrev pub IsDue : Option SessionFault → ℕ → List ℕ → SourceView → SourceView → Type 0
IsDue fault limit gave before after = IsDueWithin fault (unlimited limit) gave before after

module _ {S : Type 0} (seen : S → SourceView) where
  -- reading stops at the first malformed message, at the first read that fails, and at the end: before the last read there
  -- was none of these
  pub record StopsWithin (limit : Option ℕ) (before : S) (gave : List ℕ) (after : S) : Type 0 where
    -- the source before the last read, itself and no view that could be made up, and what it had given by then
    pub at : S
    pub earlier : List ℕ
    pub octets : Consumes (seen before).text (seen at).text earlier
    pub no_fault : IsOpen (stop_within limit earlier)
    pub none_failed : (seen at).failed ≡ (seen before).failed
    pub not_ended : (seen at).ended ≡ (seen before).ended
    -- there was at most one read more, which gave at most that many octets
    pub one_read : (seen after).reads ≤ (seen at).reads + 1
    pub last : List ℕ
    pub is : gave ≡ earlier ++ last
    pub size : length last ≤ READ_SIZE

  abbrev pub StopsAtFault : S → List ℕ → S → Type 0
  StopsAtFault before gave after = StopsWithin None before gave after

  -- a source gave these octets, in at most that many reads, until this fault, which is due
  pub record GaveWithin (limits : SessionLimits) (before : S) (gave : List ℕ) (after : S) (fault : Option SessionFault) : Type 0 where
    -- what the source held before is these, and then what it holds after
    pub octets : Consumes (seen before).text (seen after).text gave
    pub within : (seen after).reads ≤ (seen before).reads + limits.reads
    pub stops : StopsWithin limits.templates before gave after
    pub fault_is_due : IsDueWithin fault limits gave (seen before) (seen after)

  abbrev pub Gave : ℕ → S → List ℕ → S → Option SessionFault → Type 0
  Gave limit before gave after fault = GaveWithin (unlimited limit) before gave after fault

  -- ---- a session of a source

  -- a source gave octets that have these records, and the report tells of them; no record was given back
  pub record IsGivenWithin (limits : SessionLimits) (before after : S) (report : SessionReport) (records : List DataRecord) : Type 0 where
    pub gave : List ℕ
    pub given : GaveWithin limits before gave after report.fault
    -- the messages that count are the first of those that RFC 7011 (sections 3 and 8) gives for the octets before their
    -- first malformed one
    pub counted : List Message
    pub first : IsPrefix counted (given_within limits.templates gave).messages
    -- and are all of those, unless memory ran out; even then those of what was given before the last read are among them
    pub all : report.fault ≢ Some (faults.Message OutOfMemory) → counted ≡ (given_within limits.templates gave).messages
    pub earlier : IsPrefix (given_within limits.templates given.stops.earlier).messages counted
    -- the records are all data records of these messages, in their order (RFC 7011, section 3.4.3)
    pub records_are : records ≡ records_in counted
    -- the report counts these messages and records, and what their sequence numbers say was lost (RFC 7011, section 3.1)
    pub report_is : Reports report counted (length records)
    -- no record was given back
    pub not_closed : report.fault ≢ Some faults.SinkClosed

  abbrev pub IsGiven : ℕ → S → S → SessionReport → List DataRecord → Type 0
  IsGiven limit before after report records = IsGivenWithin (unlimited limit) before after report records

module _ {K : Type 0} (view : SinkView K) where
  -- what a sink that had taken the old ones' records took of all these messages, by the fault of the report
  abbrev pub PutsUpTo : Option SessionFault → List Message → List Message → K → K → (List Message → ℕ → Type 0) → Type 0
  PutsUpTo (Some (faults.Message OutOfMemory)) old all before after told = RunsOut view old all before after told
  PutsUpTo (Some faults.SinkClosed) old all before after told = IsRefused view old all before after told
  PutsUpTo fault old all before after told = PutsWhole view old all before after told

module _ {S K : Type 0} (seen : S → SourceView) (view : SinkView K) where
  -- a source gave octets until this fault, a sink took their records, and this is told of the messages that count
  pub record DrivesTo (limits : SessionLimits) (before after : S) (first last : K) (fault : Option SessionFault) (told : List Message → ℕ → Type 0) : Type 0 where
    pub gave : List ℕ
    pub given : GaveWithin seen limits before gave after fault
    -- the first records that the sink took are those of what was given before the last read, and it gave none of them back
    pub middle : K
    pub earlier : Takes view first (records_within limits.templates given.stops.earlier) middle
    pub puts : PutsUpTo view fault (given_within limits.templates given.stops.earlier).messages (given_within limits.templates gave).messages middle last told

  -- and the report tells it
  abbrev pub DrivesWithin : SessionLimits → S → S → K → K → SessionReport → Type 0
  DrivesWithin limits before after first last report = DrivesTo limits before after first last report.fault (Reports report)

  abbrev pub Drives : ℕ → S → S → K → K → SessionReport → Type 0
  Drives limit before after first last report = DrivesWithin (unlimited limit) before after first last report

  -- and the full report tells it
  abbrev pub DrivesInFull : SessionLimits → S → S → K → K → FullReport → Type 0
  DrivesInFull limits before after first last full = DrivesTo limits before after first last full.report.fault (ReportsInFull full)

  -- the sink took, one after another, the records that a source gave
  pub record TakesGivenWithin (limits : SessionLimits) (before after : S) (first last : K) (report : SessionReport) : Type 0 where
    pub records : List DataRecord
    pub given : IsGivenWithin seen limits before after report records
    pub takes : Takes view first records last

  abbrev pub TakesGiven : ℕ → S → S → K → K → SessionReport → Type 0
  TakesGiven limit before after first last report = TakesGivenWithin (unlimited limit) before after first last report

  -- wherever P holds of the sink and the report after a drive, the sink took the records that the source gave
  abbrev pub DrivenIsGiven : (K → SessionReport → Type 0) → Type 0
  DrivenIsGiven P =
      (limit : ℕ) (before after : S) (first last : K) (report : SessionReport)
      → Drives limit before after first last report → P last report → TakesGiven limit before after first last report
