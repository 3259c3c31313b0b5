-- The line of how many flows of a session have which element of a start.
use Rattle.std.specs.Prelude.{ℕ, ◌==◌, ◌&&◌, Bool, if◌then◌else◌, List, [], ◌++◌, codes, decimal}
use Rattle.flow_times.specs.Elements.{name_of}
use Rattle.flow_times.specs.declared.element.TimeElement.{TimeElement}
use Rattle.flow_times.specs.declared.element.TimeElement.TheVariants.{FlowStartMilliseconds, FlowStartSeconds, FlowStartMicroseconds, FlowStartNanoseconds, FlowStartDeltaMicroseconds, FlowStartSysUpTime, FlowDurationMilliseconds, FlowDurationMicroseconds}
use Rattle.flow_times.specs.declared.starts.StartCounts.{StartCounts}
use Rattle.report_writing.specs.Origins.{session_start}
use Rattle.report_writing.specs.declared.origin.Origin.{Origin}

-- an element and how many flows have it, if any has
unfoldable pub count_text : List ℕ → ℕ → List ℕ
count_text name flows = codes " " ++ (name ++ (codes " " ++ decimal flows))

abbrev pub if_counted : TimeElement → ℕ → List ℕ
if_counted element flows = if flows == 0 then [] else count_text (name_of element) flows

-- in the order in which starts are read, and then durations
abbrev pub basic_text : StartCounts → List ℕ
basic_text s = if_counted FlowStartMilliseconds s.milliseconds ++ if_counted FlowStartSeconds s.seconds

abbrev pub fine_text : StartCounts → List ℕ
fine_text s =
    if_counted FlowStartMicroseconds s.microseconds ++ (if_counted FlowStartNanoseconds s.nanoseconds ++ if_counted FlowStartDeltaMicroseconds s.delta_microseconds)

abbrev pub others_text : StartCounts → List ℕ
others_text s =
    if_counted FlowStartSysUpTime s.sys_up_time ++ (if_counted FlowDurationMilliseconds s.duration_milliseconds ++ if_counted FlowDurationMicroseconds s.duration_microseconds)

abbrev pub counts_text : StartCounts → List ℕ
counts_text s = basic_text s ++ (fine_text s ++ others_text s)

-- no flow has one
abbrev pub has_none : StartCounts → Bool
has_none s =
    (s.milliseconds == 0) && ((s.seconds == 0) && ((s.microseconds == 0) && ((s.nanoseconds == 0)
    && ((s.delta_microseconds == 0) && ((s.sys_up_time == 0) && ((s.duration_milliseconds == 0) && (s.duration_microseconds == 0)))))))

abbrev pub starts_line : ℕ → Origin → StartCounts → List ℕ
starts_line session origin s = session_start session origin ++ (codes ": times:" ++ (counts_text s ++ codes "\n"))

-- none then
abbrev pub session_starts : ℕ → Origin → StartCounts → List ℕ
session_starts session origin s = if has_none s then [] else starts_line session origin s
