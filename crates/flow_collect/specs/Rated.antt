-- What is noted of the records of a session that count, and told at its end.
use Rattle.std.specs.Prelude.{◌≡◌, ◌||◌, ◌&&◌, nat_lt, Bool, true, false, if◌then◌else◌, List, [], ◌∷◌, Option, Some, None}
use Rattle.std.specs.Borrow.{Bor}
use Rattle.std.specs.List.{list_any}
use Rattle.ipfix_message.specs.declared.record.DataRecord.{DataRecord}
use Rattle.ipfix_session.specs.Sinks.{SinkView}
use Rattle.exporter_options.specs.Beside.{Asked, asked_next}
use Rattle.exporter_options.specs.Known.{Known}
use Rattle.flow_estimates.specs.Estimates.{is_too_large_for}
use Rattle.flow_estimates.specs.Noted.{IsEmpty, IsReportOf, Noted, note, noted_first}
use Rattle.flow_estimates.specs.declared.estimates.Estimates.{Estimates}
use Rattle.flow_estimates.specs.declared.report.SamplingReport.{SamplingReport}
use Rattle.flow_collect.specs.declared.collected.FilteredReport.{FilteredReport}
use Rattle.flow_collect.specs.declared.fault.CollectFault.{CollectFault}
use Rattle.flow_collect.specs.declared.fault.CollectFault.TheVariants.{SumTooLarge, Sampled}
use Rattle.flow_collect.specs.declared.rate_sink.RateSink.{RateSink}
use Rattle.flow_collect.specs.declared.session_context.InContext.{InContext}

-- what is known after the records of a session
abbrev pub asked_after : Asked → List DataRecord → Asked
asked_after s [] = s
asked_after s (r ∷ rs) = asked_after (asked_next s r) rs

-- nothing is noted if nothing is asked
abbrev pub notes_first : Bool → Option Noted
notes_first true = Some noted_first
notes_first false = None

abbrev pub noted_next : Option (Bor Estimates) → Option Noted → DataRecord → Option Noted
noted_next estimates None r = None
noted_next estimates (Some n) r = Some (note estimates n r)

-- after some records, the first of them first
abbrev pub noted_after : Option (Bor Estimates) → Option Noted → List DataRecord → Option Noted
noted_after estimates notes [] = notes
noted_after estimates notes (r ∷ rs) = noted_after estimates (noted_next estimates notes r) rs

-- what is told of what was noted, where this is known at the end
abbrev pub Tells : Known → Option Noted → SamplingReport → Type 0
Tells known None report = IsEmpty report
Tells known (Some n) report = IsReportOf known n report

-- a record is put into the other sink, and noted
pub record TakesNoted {K : Type 0} (view : SinkView K) (before : RateSink K) (r : DataRecord) (after : RateSink K) : Type 0 where
  pub same_estimates : after.estimates ≡ before.estimates
  pub noted : after.notes ≡ noted_next before.estimates before.notes r
  pub taken : view.took before.sink r after.sink

-- what contracts see of it
abbrev pub rate_view : {K : Type 0} → SinkView K → SinkView (RateSink K)
rate_view view = record { took = TakesNoted view; refused = λ s. view.refused s.sink }

-- ---- estimates that are too large

-- the estimate of a flow's counter is 2^64 or more
abbrev pub is_large : Option (Bor Estimates) → DataRecord → Bool
is_large estimates r = if nat_lt 0 r.scope then false else is_too_large_for estimates r.fields

-- one of the records of a session is such a flow
abbrev pub have_large : {S : Type 0} → List (InContext S) → List (List DataRecord) → Bool
have_large (s ∷ sources) (q ∷ qs) = list_any (is_large s.context.estimates) q || have_large sources qs
have_large sources qs = false

-- a session tells of one
abbrev pub tell_large : List FilteredReport → Bool
tell_large reports = list_any (λ (told : FilteredReport). told.sampling.is_too_large) reports

-- ---- sampled records, where they are refused

-- a session refuses them
abbrev pub refuse_sampled : {S : Type 0} → List (InContext S) → Bool
refuse_sampled {S = S} sources = list_any (λ (s : InContext S). s.context.refuses_sampled) sources

-- a session tells of one
abbrev pub tell_sampled : List FilteredReport → Bool
tell_sampled reports = list_any (λ (told : FilteredReport). told.sampling.is_sampled) reports

-- what makes of what sessions tell of sampling that nothing is collected
abbrev pub sampling_fault : Bool → List FilteredReport → Option CollectFault
sampling_fault refuses reports =
    if tell_large reports then Some SumTooLarge
    else if refuses && tell_sampled reports then Some Sampled
    else None

-- no estimate is too large, and if sampled records are refused none is told of
abbrev pub TellNoFault : {S : Type 0} → List (InContext S) → List FilteredReport → Type 0
TellNoFault sources reports = sampling_fault (refuse_sampled sources) reports ≡ None
