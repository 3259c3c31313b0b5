-- How many flows have which element of a start.
use Rattle.std.specs.Prelude.{ℕ, ◌+◌, ◌-◌, ◌^◌, min, if◌then◌else◌, List, [], ◌∷◌, Option, Some, None}
use Rattle.ipfix_message.specs.declared.record.DataRecord.{DataRecord}
use Rattle.flow_times.specs.Elements.{start_element}
use Rattle.flow_times.specs.Timed.{is_flow}
use Rattle.flow_times.specs.declared.element.TimeElement.{TimeElement}
use Rattle.flow_times.specs.declared.element.TimeElement.TheVariants.{FlowStartMilliseconds, FlowStartSeconds, FlowStartMicroseconds, FlowStartNanoseconds, FlowStartDeltaMicroseconds, FlowStartSysUpTime, FlowDurationMilliseconds, FlowDurationMicroseconds}
use Rattle.flow_times.specs.declared.starts.StartCounts.{StartCounts}
use Rattle.flow_times.specs.declared.starts.TheConstants.{NO_STARTS}

-- one flow more; a count stops at 2^64 - 1
abbrev pub one_more : ℕ → ℕ
one_more n = min (n + 1) (2 ^ 64 - 1)

abbrev pub counts : ℕ → ℕ → ℕ → ℕ → ℕ → ℕ → ℕ → ℕ → StartCounts
counts a b c d e f g h =
    record { milliseconds = a; seconds = b; microseconds = c; nanoseconds = d; delta_microseconds = e; sys_up_time = f; duration_milliseconds = g; duration_microseconds = h }

-- a flow whose first element is this one
abbrev pub counted : Option TimeElement → StartCounts → StartCounts
counted (Some FlowStartMilliseconds) s = counts (one_more s.milliseconds) s.seconds s.microseconds s.nanoseconds s.delta_microseconds s.sys_up_time s.duration_milliseconds s.duration_microseconds
counted (Some FlowStartSeconds) s = counts s.milliseconds (one_more s.seconds) s.microseconds s.nanoseconds s.delta_microseconds s.sys_up_time s.duration_milliseconds s.duration_microseconds
counted (Some FlowStartMicroseconds) s = counts s.milliseconds s.seconds (one_more s.microseconds) s.nanoseconds s.delta_microseconds s.sys_up_time s.duration_milliseconds s.duration_microseconds
counted (Some FlowStartNanoseconds) s = counts s.milliseconds s.seconds s.microseconds (one_more s.nanoseconds) s.delta_microseconds s.sys_up_time s.duration_milliseconds s.duration_microseconds
counted (Some FlowStartDeltaMicroseconds) s = counts s.milliseconds s.seconds s.microseconds s.nanoseconds (one_more s.delta_microseconds) s.sys_up_time s.duration_milliseconds s.duration_microseconds
counted (Some FlowStartSysUpTime) s = counts s.milliseconds s.seconds s.microseconds s.nanoseconds s.delta_microseconds (one_more s.sys_up_time) s.duration_milliseconds s.duration_microseconds
counted (Some FlowDurationMilliseconds) s = counts s.milliseconds s.seconds s.microseconds s.nanoseconds s.delta_microseconds s.sys_up_time (one_more s.duration_milliseconds) s.duration_microseconds
counted (Some FlowDurationMicroseconds) s = counts s.milliseconds s.seconds s.microseconds s.nanoseconds s.delta_microseconds s.sys_up_time s.duration_milliseconds (one_more s.duration_microseconds)
counted other s = s

-- a record, if it tells of a flow
abbrev pub counted_flow : DataRecord → StartCounts → StartCounts
counted_flow r s = if is_flow r then counted (start_element r.fields) s else s

-- after some records, the first of them first
abbrev pub counted_all : StartCounts → List DataRecord → StartCounts
counted_all s [] = s
counted_all s (r ∷ rs) = counted_all (counted_flow r s) rs

abbrev pub starts_of : List DataRecord → StartCounts
starts_of rs = counted_all NO_STARTS rs
