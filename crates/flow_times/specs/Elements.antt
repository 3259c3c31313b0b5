-- Elements that say the times of flows (IANA, "IPFIX Information Elements").
use Rattle.std.specs.Prelude.{ℕ, Bool, List, [], ◌∷◌, codes, find, is_some, Option}
use Rattle.ipfix_elements.specs.Elements.{iana}
use Rattle.ipfix_message.specs.Fields.{Field, octets_of}
use Rattle.flow_times.specs.declared.element.TimeElement.{TimeElement}
use Rattle.flow_times.specs.declared.element.TimeElement.TheVariants.{FlowStartMilliseconds, FlowStartSeconds, FlowStartMicroseconds, FlowStartNanoseconds, FlowStartDeltaMicroseconds, FlowStartSysUpTime, FlowEndMicroseconds, FlowEndNanoseconds, FlowEndDeltaMicroseconds, FlowEndSysUpTime, FlowDurationMilliseconds, FlowDurationMicroseconds}

abbrev pub number_of : TimeElement → ℕ
number_of FlowStartMilliseconds = 152
number_of FlowStartSeconds = 150
number_of FlowStartMicroseconds = 154
number_of FlowStartNanoseconds = 156
number_of FlowStartDeltaMicroseconds = 158
number_of FlowStartSysUpTime = 22
number_of FlowEndMicroseconds = 155
number_of FlowEndNanoseconds = 157
number_of FlowEndDeltaMicroseconds = 159
number_of FlowEndSysUpTime = 21
number_of FlowDurationMilliseconds = 161
number_of FlowDurationMicroseconds = 162

abbrev pub name_of : TimeElement → List ℕ
name_of FlowStartMilliseconds = codes "flowStartMilliseconds"
name_of FlowStartSeconds = codes "flowStartSeconds"
name_of FlowStartMicroseconds = codes "flowStartMicroseconds"
name_of FlowStartNanoseconds = codes "flowStartNanoseconds"
name_of FlowStartDeltaMicroseconds = codes "flowStartDeltaMicroseconds"
name_of FlowStartSysUpTime = codes "flowStartSysUpTime"
name_of FlowEndMicroseconds = codes "flowEndMicroseconds"
name_of FlowEndNanoseconds = codes "flowEndNanoseconds"
name_of FlowEndDeltaMicroseconds = codes "flowEndDeltaMicroseconds"
name_of FlowEndSysUpTime = codes "flowEndSysUpTime"
name_of FlowDurationMilliseconds = codes "flowDurationMilliseconds"
name_of FlowDurationMicroseconds = codes "flowDurationMicroseconds"

-- those that are not in milliseconds or seconds since 1970: starts, then ends, then durations
abbrev pub other_times : List TimeElement
other_times =
    FlowStartMicroseconds ∷ FlowStartNanoseconds ∷ FlowStartDeltaMicroseconds ∷ FlowStartSysUpTime ∷
    FlowEndMicroseconds ∷ FlowEndNanoseconds ∷ FlowEndDeltaMicroseconds ∷ FlowEndSysUpTime ∷
    FlowDurationMilliseconds ∷ FlowDurationMicroseconds ∷ []

-- a record has a field of the element, whatever its octets are
abbrev pub has_field : List Field → TimeElement → Bool
has_field fields element = is_some (octets_of (iana (number_of element)) fields)

-- the first of them that a record has
abbrev pub other_time : List Field → Option TimeElement
other_time fields = find (has_field fields) other_times

-- starts, in the order in which they are read, and then durations
abbrev pub starts : List TimeElement
starts =
    FlowStartMilliseconds ∷ FlowStartSeconds ∷ FlowStartMicroseconds ∷ FlowStartNanoseconds ∷ FlowStartDeltaMicroseconds ∷ FlowStartSysUpTime ∷
    FlowDurationMilliseconds ∷ FlowDurationMicroseconds ∷ []

-- the first of them that a record has
abbrev pub start_element : List Field → Option TimeElement
start_element fields = find (has_field fields) starts
