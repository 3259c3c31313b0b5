-- What a driven session gave, as its full report tells it, if its sink gave no record back.
use Rattle.std.proofs.Common.{◌≡◌, ℕ, List, [], length, Option, None, Some, refl, sym, subst, append-nil, arith}
use Rattle.std.specs.Prelude.{◌≢◌}
use Rattle.ipfix_message.specs.Domains.{Message}
use Rattle.ipfix_message.specs.declared.fault.MessageFault.TheVariants.{OutOfMemory}
use Rattle.ipfix_message.specs.declared.record.DataRecord.{DataRecord}
use Rattle.ipfix_session.specs.declared.fault.SessionFault.{SessionFault}
use Rattle.ipfix_session.specs.declared.fault.SessionFault.TheVariants as faults
use Rattle.ipfix_session.specs.declared.report.FullReport.{FullReport}
use Rattle.ipfix_session.specs.declared.session_limits.SessionLimits.{SessionLimits}
use Rattle.ipfix_session.specs.Given.{given_within, records_in, records_within, IsPrefix}
use Rattle.ipfix_session.specs.Sources.{SourceView}
use Rattle.ipfix_session.specs.Sinks.{SinkView, Takes}
use Rattle.ipfix_session.specs.Feeding.{PutsWhole}
use Rattle.ipfix_session.specs.Places.{ReportsInFull}
use Rattle.ipfix_session.specs.Drives.{IsGivenWithin, PutsUpTo, DrivesInFull}
use Rattle.ipfix_session.proofs.Giving.{given_within-prefix}
use Rattle.ipfix_session.proofs.Reaching.{takes-append}

module _ {S K : Type 0} (seen : S → SourceView) (view : SinkView K) (limits : SessionLimits) (before after : S) (first last : K) (full : FullReport) where
  -- the sink took the records that the source gave, and the full report is of their messages
  pub record TakesInFull : Type 0 where
    pub records : List DataRecord
    pub given : IsGivenWithin seen limits before after full.report records
    pub in_full : ReportsInFull full given.counted (length records)
    pub takes : Takes view first records last

  -- these messages count, and their records were put
  in_full_whole : (d : DrivesInFull seen view limits before after first last full) (whole : List Message) → IsPrefix whole (given_within limits.templates d.gave).messages
      → (full.report.fault ≢ Some (faults.Message OutOfMemory) → whole ≡ (given_within limits.templates d.gave).messages) → IsPrefix (given_within limits.templates d.given.stops.earlier).messages whole
      → full.report.fault ≢ Some faults.SinkClosed → PutsWhole view (given_within limits.templates d.given.stops.earlier).messages whole d.middle last (ReportsInFull full) → TakesInFull
  in_full_whole d whole some all from taken p =
      record {
        records = records_in whole;
        given = record {
          gave = d.gave;
          given = d.given;
          counted = whole;
          first = some;
          all = all;
          earlier = from;
          records_are = refl;
          report_is = p.tells.counts.reports;
          not_closed = taken;
        };
        in_full = p.tells;
        takes = subst (λ (rs : List DataRecord). Takes view first rs last) (sym p.records) (takes-append view first d.middle last (records_within limits.templates d.given.stops.earlier) p.put d.earlier p.takes);
      }

  -- all messages count
  in_full_all : (d : DrivesInFull seen view limits before after first last full) → full.report.fault ≢ Some faults.SinkClosed
      → PutsWhole view (given_within limits.templates d.given.stops.earlier).messages (given_within limits.templates d.gave).messages d.middle last (ReportsInFull full) → TakesInFull
  in_full_all d taken p =
      let all = (given_within limits.templates d.gave).messages in
      let stops = d.given.stops in
      let from = subst (λ (w : List ℕ). IsPrefix (given_within limits.templates stops.earlier).messages (given_within limits.templates w).messages) (sym stops.is) (given_within-prefix limits.templates stops.earlier stops.last) in
      in_full_whole d all ([], sym (append-nil all)) (λ _. refl) from taken p

  -- by the fault
  in_full_by : (d : DrivesInFull seen view limits before after first last full) (fault : Option SessionFault) → full.report.fault ≡ fault → full.report.fault ≢ Some faults.SinkClosed
      → PutsUpTo view fault (given_within limits.templates d.given.stops.earlier).messages (given_within limits.templates d.gave).messages d.middle last (ReportsInFull full) → TakesInFull
  in_full_by d None is taken p = in_full_all d taken p
  in_full_by d (Some faults.Truncated) is taken p = in_full_all d taken p
  in_full_by d (Some faults.ReadFailed) is taken p = in_full_all d taken p
  in_full_by d (Some faults.TooManyReads) is taken p = in_full_all d taken p
  in_full_by d (Some (faults.Message OutOfMemory)) is taken p = in_full_whole d p.whole p.up_to (λ (memory : full.report.fault ≢ Some (faults.Message OutOfMemory)). absurd (memory is)) p.from taken p.puts
  in_full_by d (Some (faults.Message e)) is taken p = in_full_all d taken p
  in_full_by d (Some faults.SinkClosed) is taken p = absurd (taken is)

  -- a sink that gave none back at all didn't close
  closed_not : (fault : Option SessionFault) (old all : List Message) (middle : K) → view.refused last ≡ 0 → PutsUpTo view fault old all middle last (ReportsInFull full) → fault ≢ Some faults.SinkClosed
  closed_not None old all middle none p = λ e. cc e
  closed_not (Some faults.Truncated) old all middle none p = λ e. cc e
  closed_not (Some faults.ReadFailed) old all middle none p = λ e. cc e
  closed_not (Some faults.TooManyReads) old all middle none p = λ e. cc e
  closed_not (Some (faults.Message e)) old all middle none p = λ e. cc e
  closed_not (Some faults.SinkClosed) old all middle none p = absurd (omega (arith, p.back, none))

  pub took_in_full : DrivesInFull seen view limits before after first last full → view.refused last ≡ 0 → TakesInFull
  took_in_full d none = in_full_by d full.report.fault refl (closed_not full.report.fault _ _ _ none d.puts) d.puts
