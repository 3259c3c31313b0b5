-- What a sink behind a filter takes.
use Rattle.std.specs.Prelude.{◌≡◌, ℕ, not, Bool, true, List, filter, count_by, MatchBool, Option, Some, None}
use Rattle.std.specs.Borrow.{Bor}
use Rattle.ipfix_message.specs.declared.record.DataRecord.{DataRecord}
use Rattle.ipfix_session.specs.Ledger.{capped}
use Rattle.ipfix_session.specs.Sinks.{SinkView, Takes}
use Rattle.ipfix_session.specs.Sources.{one_more}
use Rattle.flow_filter.specs.declared.filter.Filter.{Filter}
use Rattle.flow_filter.specs.declared.sink.FilterSink.{FilterSink}
use Rattle.flow_filter.specs.Conditions.{is_counted}

-- whether a record is counted where there is this filter, or none, which counts all
abbrev pub is_let_by : Option (Bor Filter) → DataRecord → Bool
is_let_by None r = true
is_let_by (Some f) r = is_counted f.now r

-- the records of a list that are counted
abbrev pub counted : Option (Bor Filter) → List DataRecord → List DataRecord
counted f rs = filter (is_let_by f) rs

-- how many of a list are not: the count stops at 2^64 - 1
abbrev pub left_out : Option (Bor Filter) → List DataRecord → ℕ
left_out f rs = capped (count_by (λ r. not (is_let_by f r)) rs)

-- a record that is counted is put into the other sink, and one that is not is left out
pub record TakesCounted {K : Type 0} (view : SinkView K) (before : FilterSink K) (r : DataRecord) (after : FilterSink K) : Type 0 where
  pub same_filter : after.filter ≡ before.filter
  pub taken : MatchBool (is_let_by before.filter r)
      (view.took before.sink r after.sink × (after.filtered ≡ before.filtered))
      ((after.sink ≡ before.sink) × (after.filtered ≡ one_more before.filtered))

-- what contracts see of it
abbrev pub filter_view : {K : Type 0} → SinkView K → SinkView (FilterSink K)
filter_view view = record { took = TakesCounted view; refused = λ s. view.refused s.sink }

module _ {K : Type 0} (view : SinkView K) (before after : FilterSink K) where
  -- of the records that a sink behind a filter takes, the other sink takes those that are counted, each once and in order
  abbrev pub PutsCounted : Type 0
  PutsCounted = (rs : List DataRecord) → Takes (filter_view view) before rs after → Takes view before.sink (counted before.filter rs) after.sink

  -- and a new one counts the others
  abbrev pub CountsOthers : Type 0
  CountsOthers = (rs : List DataRecord) → Takes (filter_view view) before rs after → before.filtered ≡ 0 → after.filtered ≡ left_out before.filter rs
