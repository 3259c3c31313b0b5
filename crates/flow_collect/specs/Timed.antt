-- What a sink that notes the times of records, and great counters, takes.
use Rattle.std.specs.Prelude.{◌≡◌}
use Rattle.ipfix_message.specs.declared.record.DataRecord.{DataRecord}
use Rattle.ipfix_session.specs.Sinks.{SinkView}
use Rattle.flow_times.specs.Noted.{next}
use Rattle.flow_collect.specs.Great.{great_next}
use Rattle.flow_collect.specs.declared.note_sink.NoteSink.{NoteSink}

-- a record is put into the other sink, and its times are noted, and whether it has a great counter
pub record TakesTimed {K : Type 0} (view : SinkView K) (before : NoteSink K) (r : DataRecord) (after : NoteSink K) : Type 0 where
  pub noted : after.notes ≡ next before.notes r
  pub great : after.great ≡ great_next before.great r
  pub taken : view.took before.sink r after.sink

-- what contracts see of it
abbrev pub time_view : {K : Type 0} → SinkView K → SinkView (NoteSink K)
time_view view = record { took = TakesTimed view; refused = λ s. view.refused s.sink }
