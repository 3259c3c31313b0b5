-- What went through the sinks of a session, and what they tell of it.
use Rattle.std.proofs.Common.{◌≡◌, List, Option, None, refl, sym, ap, ◌∙◌, subst}
use Rattle.std.specs.List.{FoldsTo}
use Rattle.ipfix_message.specs.declared.record.DataRecord.{DataRecord}
use Rattle.ipfix_session.specs.Drives.{DrivesInFull}
use Rattle.ipfix_session.specs.Sinks.{SinkView}
use Rattle.ipfix_session.specs.Sources.{SourceView}
use Rattle.ipfix_session.specs.declared.report.FullReport.{FullReport}
use Rattle.exporter_options.specs.Beside.{Asked}
use Rattle.flow_estimates.specs.Noted.{Noted}
use Rattle.flow_filter.specs.Sinks.{filter_view}
use Rattle.flow_collect.specs.Contexts.{counted_in, known_in, limits_in}
use Rattle.flow_collect.specs.InFull.{IsGivenInContext, IsGivenInFull}
use Rattle.flow_collect.specs.Rated.{noted_after, rate_view, Tells}
use Rattle.flow_collect.specs.SessionSinks.{AreFirst, SessionSinks, TellAtEnd}
use Rattle.flow_collect.specs.Timed.{time_view}
use Rattle.flow_collect.specs.declared.collected.FilteredReport.{FilteredReport}
use Rattle.flow_collect.specs.declared.session_context.InContext.{InContext}
use Rattle.flow_collect.proofs.Contexts.{kept_counted, TakesInContext}
use Rattle.flow_collect.proofs.InFull.{took_in_full}
use Rattle.flow_collect.proofs.Rated.{noted_chain, notes_chain}
use Rattle.flow_collect.proofs.Timed.{great_chain, timed_chain, times_chain}

abbrev pub in_front_of : {K : Type 0} → SinkView K → SinkView (SessionSinks K)
in_front_of view = record { took = TakesInContext (filter_view (rate_view (time_view view))).took; refused = λ s. s.refused }

-- a source gave records, as it is reported, and those that count went into the sink behind
pub record WentThrough {S K : Type 0} (seen : S → SourceView) (view : SinkView K) (next : InContext S) (after : S) (told : FilteredReport) (first last : K) : Type 0 where
  pub records : List DataRecord
  pub given : IsGivenInContext seen next after told records
  pub chain : FoldsTo view.took first records last

pub went_through : {S K : Type 0} (seen : S → SourceView) (view : SinkView K) (next : InContext S) (after : S) (full : FullReport) (told : FilteredReport) (sink : K) (first last : SessionSinks K)
    → AreFirst next.context next.filter sink first → last.lost ≡ None → last.refused ≡ 0 → DrivesInFull seen (in_front_of view) (limits_in next.context) next.source after first last full
    → TellAtEnd last full told → WentThrough seen view next after told sink last.sink.sink.sink.sink
went_through {K = K} seen view next after full told sink first last are none refused d end =
    let took = took_in_full seen (in_front_of view) next after first last full d refused in
    let kept = kept_counted (rate_view (time_view view)) next first last took.records are.asked are.context_is are.filter_is are.none_out took.takes.chain none in
    let records = counted_in next took.records in
    let notes = notes_chain (time_view view) next.context.estimates records first.sink.sink last.sink.sink are.estimates_are kept.0 ∙ ap (λ (n : Option Noted). noted_after next.context.estimates n records) are.rates_are in
    let timed = noted_chain (time_view view) records first.sink.sink last.sink.sink kept.0 in
    record {
      records = records;
      given = record {
        own = took.records;
        given = subst (λ (f : FullReport). IsGivenInFull seen next after f took.records) (sym end.full_is) took.given;
        records_are = refl;
        filtered_is = end.filtered_is ∙ kept.1;
        sampling_is = subst (λ (n : Option Noted). Tells (known_in next took.records) n told.sampling) notes (subst (λ (k : Asked). Tells k.known last.sink.sink.notes told.sampling) kept.2 end.tells);
        times_is = times_chain view next.context.times records first.sink.sink.sink last.sink.sink.sink told.times are.times_are timed end.times_are;
        great_is = great_chain view next.context.great_counters records first.sink.sink.sink last.sink.sink.sink told.is_great are.great_is timed end.great_is;
      };
      chain = subst (λ (k : K). FoldsTo view.took k records last.sink.sink.sink.sink) are.sink_is (timed_chain view records first.sink.sink.sink last.sink.sink.sink timed);
    }
