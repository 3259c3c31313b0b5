-- What is told of the times of a session's flows.
use Rattle.std.specs.Prelude.{◌≡◌, ◌⊎◌, Bool, ◌&&◌, if◌then◌else◌, List, [], ◌∷◌, All, Option, None}
use Rattle.std.specs.List.{list_any}
use Rattle.std.specs.Option.{option_or}
use Rattle.ipfix_message.specs.declared.record.DataRecord.{DataRecord}
use Rattle.flow_table.specs.Plans.{PlanValue}
use Rattle.flow_table.specs.Reading.{class_of}
use Rattle.flow_table.specs.declared.choices.Times.TheVariants.{Basic}
use Rattle.flow_table.specs.declared.class.Class.TheVariants.{Options, Untimed}
use Rattle.flow_times.specs.Elements.{other_time}
use Rattle.flow_times.specs.Starts.{starts_of}
use Rattle.flow_times.specs.Timed.{is_flow, is_timed}
use Rattle.flow_times.specs.declared.element.TimeElement.{TimeElement}
use Rattle.flow_times.specs.declared.notes.TimeNoting.{TimeNoting}
use Rattle.flow_times.specs.declared.notes.TimeNoting.TheVariants as noting
use Rattle.flow_times.specs.declared.notes.TimesReport.{TimesReport}
use Rattle.flow_times.specs.declared.notes.TheConstants.{NO_TIMES}
use Rattle.flow_times.specs.declared.starts.TheConstants.{NO_STARTS}

-- a flow that has its times so
abbrev pub is_timed_flow : DataRecord → Bool
is_timed_flow r = is_flow r && is_timed r

-- the element by which the first flow that has one says a time otherwise
abbrev pub first_other : List DataRecord → Option TimeElement
first_other [] = None
first_other (r ∷ rs) = option_or (if is_flow r then other_time r.fields else None) (first_other rs)

-- that element, if no flow has its times in milliseconds or seconds
abbrev pub untimed_time : List DataRecord → Option TimeElement
untimed_time rs = if list_any is_timed_flow rs then None else first_other rs

-- what is told, by what is to be
abbrev pub times_of : TimeNoting → List DataRecord → TimesReport
times_of noting.Nothing rs = NO_TIMES
times_of noting.Untimed rs = record { untimed = untimed_time rs; starts = NO_STARTS }
times_of noting.Starts rs = record { untimed = None; starts = starts_of rs }

-- under a plan the record is of options, or untimed
abbrev pub IsLeftOut : PlanValue → DataRecord → Type 0
IsLeftOut plan r = (class_of plan r ≡ Options) ⊎ (class_of plan r ≡ Untimed)

-- each of these is
abbrev pub AreLeftOut : PlanValue → List DataRecord → Type 0
AreLeftOut plan rs = All (IsLeftOut plan) rs

-- for each plan that reads milliseconds and seconds alone, and each list of records
abbrev pub ForBasic : (PlanValue → List DataRecord → Type 0) → Type 0
ForBasic P = (plan : PlanValue) (rs : List DataRecord) → plan.choices.times ≡ Basic → P plan rs
