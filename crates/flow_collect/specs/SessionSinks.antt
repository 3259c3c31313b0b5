-- The sinks of a session, one in front of the other.
use Rattle.std.specs.Prelude.{◌≡◌, None, Option}
use Rattle.std.specs.Borrow.{Bor}
use Rattle.ipfix_session.specs.declared.report.FullReport.{FullReport}
use Rattle.exporter_options.specs.Beside.{asked_first}
use Rattle.flow_filter.specs.declared.filter.Filter.{Filter}
use Rattle.flow_filter.specs.declared.sink.FilterSink.{FilterSink}
use Rattle.flow_times.specs.Noted.{first as first_times}
use Rattle.flow_collect.specs.Great.{great_first}
use Rattle.flow_collect.specs.Rated.{Tells, notes_first}
use Rattle.flow_collect.specs.declared.collected.FilteredReport.{FilteredReport}
use Rattle.flow_collect.specs.declared.context_sink.ContextSink.{ContextSink}
use Rattle.flow_collect.specs.declared.note_sink.NoteSink.{NoteSink}
use Rattle.flow_collect.specs.declared.rate_sink.RateSink.{RateSink}
use Rattle.flow_collect.specs.declared.session_context.SessionContext.{SessionContext}

abbrev pub SessionSinks : Type 0 → Type 0
SessionSinks K = ContextSink (FilterSink (RateSink (NoteSink K)))

-- those of a session in this context and under this filter, in front of another, before its first record
pub record AreFirst {K : Type 0} (context : SessionContext) (filter : Option (Bor Filter)) (sink : K) (sinks : SessionSinks K) : Type 0 where
  pub none_lost : sinks.lost ≡ None
  pub none_refused : sinks.refused ≡ 0
  pub asked : sinks.told ≡ asked_first context.options
  pub context_is : sinks.context ≡ context
  pub filter_is : sinks.sink.filter ≡ filter
  pub none_out : sinks.sink.filtered ≡ 0
  pub estimates_are : sinks.sink.sink.estimates ≡ context.estimates
  pub rates_are : sinks.sink.sink.notes ≡ notes_first context.options.sampling
  pub times_are : sinks.sink.sink.sink.notes ≡ first_times context.times
  pub great_is : sinks.sink.sink.sink.great ≡ great_first context.great_counters
  pub sink_is : sinks.sink.sink.sink.sink ≡ sink

-- what they tell of a session that ended with a report
pub record TellAtEnd {K : Type 0} (sinks : SessionSinks K) (full : FullReport) (report : FilteredReport) : Type 0 where
  pub full_is : report.full ≡ full
  pub filtered_is : report.filtered ≡ sinks.sink.filtered
  pub tells : Tells sinks.told.known sinks.sink.sink.notes report.sampling
  pub times_are : report.times ≡ sinks.sink.sink.sink.notes.report
  pub great_is : report.is_great ≡ sinks.sink.sink.sink.great.is_great
