-- Data records read under a plan: start and end, key, counters and class (RFC 7015, section 5).
use Rattle.std.specs.Prelude.{◌≡◌, ℕ, ◌+◌, ◌-◌, ◌*◌, ◌/◌, ◌^◌, ◌<◌, ◌≤◌, ◌&&◌, Bool, true, false, nat_lt, nat_le, if◌then◌else◌, List, [], ◌∷◌, map, Option, Some, None, is_none, unwrap_or, option_map, option_and_then}
use Rattle.std.specs.Option.{option_or}
use Rattle.ipfix_wire.specs.declared.specifier.ElementId.{ElementId}
use Rattle.ipfix_elements.specs.declared.cell.Cell.{Cell}
use Rattle.ipfix_elements.specs.declared.cell.Cell.TheVariants.{Number, Ipv4, Ipv6, Mac}
use Rattle.ipfix_elements.specs.declared.iana.TheConstants.{FLOW_START_SECONDS, FLOW_END_SECONDS, FLOW_START_MILLISECONDS, FLOW_END_MILLISECONDS}
use Rattle.ipfix_elements.specs.declared.kind.Kind.{Kind}
use Rattle.ipfix_elements.specs.declared.kind.Kind.TheVariants.{Unsigned, Millis}
use Rattle.ipfix_elements.specs.declared.kind.Width.TheVariants.{Four, Eight}
use Rattle.ipfix_elements.specs.Elements.{iana, kind_of}
use Rattle.ipfix_elements.specs.Prefixes.{masked}
use Rattle.ipfix_elements.specs.Values.{number_in, cell_in}
use Rattle.element_values.specs.Instants.{micros_in, nanos_in}
use Rattle.ipfix_message.specs.Fields.{octets_of}
use Rattle.ipfix_message.specs.declared.record.DataRecord.{DataRecord}
use Rattle.flow_table.specs.declared.choices.Times.{Times}
use Rattle.flow_table.specs.declared.choices.Times.TheVariants as times
use Rattle.flow_table.specs.declared.class.Class.{Class}
use Rattle.flow_table.specs.declared.class.Class.TheVariants.{Options, Untimed, Backward, Unkeyed, TooLong, Used}
use Rattle.flow_table.specs.declared.key.Key.{Key}
use Rattle.flow_table.specs.declared.method.Method.{Method}
use Rattle.flow_table.specs.declared.method.Method.TheVariants as methods
use Rattle.flow_table.specs.declared.times.TheConstants.{FLOW_START_MICROSECONDS, FLOW_END_MICROSECONDS, FLOW_START_NANOSECONDS, FLOW_END_NANOSECONDS, FLOW_START_DELTA_MICROSECONDS, FLOW_END_DELTA_MICROSECONDS, FLOW_DURATION_MILLISECONDS, FLOW_DURATION_MICROSECONDS, FLOW_START_SYS_UP_TIME, FLOW_END_SYS_UP_TIME, SYSTEM_INIT_TIME_MILLISECONDS, UPTIME_ROUND, EXPORT_RESOLUTION}
use Rattle.flow_table.specs.Intervals.{spread}
use Rattle.flow_table.specs.Networks.{masked_ipv6}
use Rattle.flow_table.specs.Plans.{PlanValue}

-- ---- numbers

-- the number in the first field of an element, by a kind
abbrev pub number_as : Kind → ElementId → DataRecord → Option ℕ
number_as kind element r = option_and_then (number_in kind) (octets_of element r.fields)

-- a counter is an unsigned64, in up to 8 octets (RFC 7011, section 6.2)
abbrev pub number_of : ElementId → DataRecord → Option ℕ
number_of element r = number_as (Unsigned Eight) element r

-- a counter that is missing or absent is 0
abbrev pub counter_of : ElementId → DataRecord → ℕ
counter_of element r = unwrap_or (number_of element r) 0

-- the counters of a record, one for each element
abbrev pub counters_of : List ElementId → DataRecord → List ℕ
counters_of elements r = map (λ c. counter_of c r) elements

-- a counter of a record is above 2^63: two such ones are too large a sum
abbrev pub is_great : DataRecord → ElementId → Bool
is_great r element = nat_lt (2 ^ 63) (counter_of element r)

-- ---- times

-- a time of 2^50 ms or more counts as absent
abbrev pub time_in : ℕ → Option ℕ
time_in t = if nat_lt t (2 ^ 50) then Some t else None

-- the time in ms that an element says in so many of them
abbrev pub time_of : ElementId → ℕ → DataRecord → Option ℕ
time_of element unit r = option_and_then (λ n. time_in (n * unit)) (number_as (kind_of element) element r)

-- the time in milliseconds, or else in seconds, by the numbers of two elements (RFC 7011, sections 6.1.7 and 6.1.8)
abbrev pub basic_time : ℕ → ℕ → DataRecord → Option ℕ
basic_time millis seconds r = option_or (time_of (iana millis) 1 r) (time_of (iana seconds) 1000 r)

abbrev pub basic_start : DataRecord → Option ℕ
basic_start r = basic_time FLOW_START_MILLISECONDS FLOW_START_SECONDS r

abbrev pub basic_end : DataRecord → Option ℕ
basic_end r = basic_time FLOW_END_MILLISECONDS FLOW_END_SECONDS r

-- ---- times of every kind, in ms and rounded down

-- the time that an element says in microseconds (RFC 7011, section 6.1.9)
abbrev pub micros_time : ElementId → DataRecord → Option ℕ
micros_time element r = option_and_then (λ n. time_in (n / 1000)) (option_and_then micros_in (octets_of element r.fields))

-- the time that an element says in nanoseconds (RFC 7011, section 6.1.10)
abbrev pub nanos_time : ElementId → DataRecord → Option ℕ
nanos_time element r = option_and_then (λ n. time_in (n / 1000000)) (option_and_then nanos_in (octets_of element r.fields))

-- an unsigned32, in up to 4 octets (RFC 7011, section 6.2)
abbrev pub unsigned32_of : ElementId → DataRecord → Option ℕ
unsigned32_of element r = number_as (Unsigned Four) element r

-- so long before a time; none, if that is before 1970
abbrev pub time_before : ℕ → ℕ → Option ℕ
time_before time long = if nat_le long time then Some (time - long) else None

-- the time that an element says in microseconds before the export time of the record's message, which is in seconds
abbrev pub delta_time : ElementId → DataRecord → Option ℕ
delta_time element r = option_and_then (λ n. time_in (n / 1000)) (option_and_then (time_before (r.export_time * 1000000)) (unsigned32_of element r))

-- the first of the three, by the numbers of their elements
abbrev pub fine_time : ℕ → ℕ → ℕ → DataRecord → Option ℕ
fine_time micros nanos delta r = option_or (micros_time (iana micros) r) (option_or (nanos_time (iana nanos) r) (delta_time (iana delta) r))

abbrev pub fine_start : DataRecord → Option ℕ
fine_start r = fine_time FLOW_START_MICROSECONDS FLOW_START_NANOSECONDS FLOW_START_DELTA_MICROSECONDS r

abbrev pub fine_end : DataRecord → Option ℕ
fine_end r = fine_time FLOW_END_MICROSECONDS FLOW_END_NANOSECONDS FLOW_END_DELTA_MICROSECONDS r

-- the start, and the end, that an element says
abbrev pub told_start : DataRecord → Option ℕ
told_start r = option_or (basic_start r) (fine_start r)

abbrev pub told_end : DataRecord → Option ℕ
told_end r = option_or (basic_end r) (fine_end r)

-- how long a flow lasts: in milliseconds, or else in microseconds
abbrev pub duration_of : DataRecord → Option ℕ
duration_of r =
    option_or (unsigned32_of (iana FLOW_DURATION_MILLISECONDS) r)
    (option_map (λ n. n / 1000) (unsigned32_of (iana FLOW_DURATION_MICROSECONDS) r))

-- an end, less the duration
abbrev pub start_by_duration : DataRecord → Option ℕ → Option ℕ
start_by_duration r end = option_and_then (λ e. option_and_then (time_before e) (duration_of r)) end

-- a start, plus the duration
abbrev pub end_by_duration : DataRecord → Option ℕ → Option ℕ
end_by_duration r start = option_and_then (λ s. option_and_then (λ long. time_in (s + long)) (duration_of r)) start

-- ---- times by uptime: elements that count milliseconds from when the exporter was started (RFC 7012, section 5)

-- systemInitTimeMilliseconds: when it was started
abbrev pub init_time : ElementId
init_time = iana SYSTEM_INIT_TIME_MILLISECONDS

-- flowStartSysUpTime
abbrev pub uptime_at_start : ElementId
uptime_at_start = iana FLOW_START_SYS_UP_TIME

-- flowEndSysUpTime
abbrev pub uptime_at_end : ElementId
uptime_at_end = iana FLOW_END_SYS_UP_TIME

-- the first time at which the count is what an element says
abbrev pub first_time : ElementId → DataRecord → Option ℕ
first_time element r =
    option_and_then (λ started. option_and_then (λ n. time_in (started + n)) (unsigned32_of element r)) (number_as Millis init_time r)

-- the count has 32 bits, and so is the same again 2^32 ms later: a time is before that
abbrev pub is_before_next : ℕ → ℕ → Bool
is_before_next time first = nat_lt time (first + UPTIME_ROUND)

-- a flow doesn't end after its message is exported; the export time is in whole seconds
abbrev pub latest_end : DataRecord → ℕ
latest_end r = r.export_time * 1000 + EXPORT_RESOLUTION

-- the end of a flow that says its start or its end by uptime
abbrev pub uptime_end_of : DataRecord → Option ℕ
uptime_end_of r = option_or (told_end r) (option_or (first_time uptime_at_end r) (end_by_duration r (first_time uptime_at_start r)))

-- the first time of a count is the one that is meant: the next end would be after the message, and the next start after the end
abbrev pub is_known : DataRecord → ℕ → ℕ → Bool
is_known r end first = nat_le end (latest_end r) && (is_before_next (latest_end r) end && is_before_next end first)

-- the time that an element says; none where it could be any of several
abbrev pub uptime_time : ElementId → DataRecord → Option ℕ
uptime_time element r =
    option_and_then (λ end. option_and_then (λ first. if is_known r end first then Some first else None) (first_time element r)) (uptime_end_of r)

abbrev pub uptime_start : DataRecord → Option ℕ
uptime_start r = uptime_time uptime_at_start r

abbrev pub uptime_end : DataRecord → Option ℕ
uptime_end r = uptime_time uptime_at_end r

-- a time by the uptime of an element is no guess: however often that began anew, up to a latest time, the time that follows is
-- the one that is read, or none is
abbrev pub IsSure : DataRecord → ElementId → ℕ → Type 0
IsSure r element latest =
    (first rounds time : ℕ) → first_time element r ≡ Some first → first + rounds * 2 ^ 32 ≤ latest → uptime_time element r ≡ Some time → time ≡ first + rounds * 2 ^ 32

-- the start, and the end, that an element says which is no uptime, or that follows by the duration from the other that one says
abbrev pub start_without_uptime : DataRecord → Option ℕ
start_without_uptime r = option_or (told_start r) (start_by_duration r (told_end r))

abbrev pub end_without_uptime : DataRecord → Option ℕ
end_without_uptime r = option_or (told_end r) (end_by_duration r (told_start r))

-- the start, and the end, that an element or an uptime says
abbrev pub any_start : DataRecord → Option ℕ
any_start r = option_or (told_start r) (uptime_start r)

abbrev pub any_end : DataRecord → Option ℕ
any_end r = option_or (told_end r) (uptime_end r)

-- of a flow that says none in milliseconds or seconds
abbrev pub other_start : DataRecord → Option ℕ
other_start r = option_or (fine_start r) (option_or (uptime_start r) (start_by_duration r (any_end r)))

abbrev pub other_end : DataRecord → Option ℕ
other_end r = option_or (fine_end r) (option_or (uptime_end r) (end_by_duration r (any_start r)))

-- ---- start and end

-- the start: the first of these that is a time. What has another length, is before 1970, or is 2^50 ms or more, is none.
unfoldable pub start_of : Times → DataRecord → Option ℕ
start_of times.Basic r = basic_start r
start_of times.All r = option_or (basic_start r) (other_start r)

-- the end, likewise
unfoldable pub end_of : Times → DataRecord → Option ℕ
end_of times.Basic r = basic_end r
end_of times.All r = option_or (basic_end r) (other_end r)

-- where the first of two ways to read times gives one, the second gives the same
abbrev pub TimesStay : (DataRecord → Option ℕ) → (DataRecord → Option ℕ) → Type 0
TimesStay first second = (r : DataRecord) (time : ℕ) → first r ≡ Some time → second r ≡ Some time

-- both give the same of each record without an element
abbrev pub AgreeWithout : ElementId → (DataRecord → Option ℕ) → (DataRecord → Option ℕ) → Type 0
AgreeWithout element first second = (r : DataRecord) → octets_of element r.fields ≡ None → first r ≡ second r

-- ---- keys (RFC 7015, section 5.2)

-- an address projected to its prefix, if the key has one
abbrev pub projected : Option ℕ → Cell → Cell
projected None cell = cell
projected (Some bits) (Number n) = Number n
projected (Some bits) (Ipv4 address) = Ipv4 (masked address bits)
projected (Some bits) (Ipv6 address) = Ipv6 (masked_ipv6 address bits)
projected (Some bits) (Mac address) = Mac address

-- the cell in the first field of a key's element, by the key's kind
unfoldable pub cell_of : Key → Kind → DataRecord → Option Cell
cell_of key kind r = option_map (projected key.prefix) (option_and_then (cell_in kind) (octets_of key.element r.fields))

-- a cell for each of the keys, none if one is missing or absent
abbrev pub cells_of : List Key → List Kind → DataRecord → Option (List Cell)
cells_of (key ∷ keys) (kind ∷ kinds) r = option_and_then (λ cell. option_map (λ cells. cell ∷ cells) (cells_of keys kinds r)) (cell_of key kind r)
cells_of keys kinds r = Some []

abbrev pub key_of : PlanValue → DataRecord → Option (List Cell)
key_of plan r = cells_of plan.keys plan.kinds r

-- ---- classes

-- whether a flow's counters are spread over all intervals that it covers
abbrev pub is_spread : Method → Bool
is_spread methods.Start = false
is_spread methods.End = false
is_spread methods.Mid = false
is_spread methods.Uniform = true
is_spread methods.Proportional = true

-- more covered intervals than the plan allows a flow that is spread over them
abbrev pub is_too_long : PlanValue → ℕ → ℕ → Bool
is_too_long plan s e = is_spread plan.method && nat_lt plan.max_spread (spread plan.length s e)

-- of a record that isn't options, by its start and end
abbrev pub flow_class : PlanValue → DataRecord → Option ℕ → Option ℕ → Class
flow_class plan r None e = Untimed
flow_class plan r (Some s) None = Untimed
flow_class plan r (Some s) (Some e) =
    if nat_lt e s then Backward
    else if is_none (key_of plan r) then Unkeyed
    else if is_too_long plan s e then TooLong
    else Used

-- the first class that fits
abbrev pub class_of : PlanValue → DataRecord → Class
class_of plan r = if nat_lt 0 r.scope then Options else flow_class plan r (start_of plan.choices.times r) (end_of plan.choices.times r)

abbrev pub is_class : Class → Class → Bool
is_class Options Options = true
is_class Untimed Untimed = true
is_class Backward Backward = true
is_class Unkeyed Unkeyed = true
is_class TooLong TooLong = true
is_class Used Used = true
is_class a b = false

-- a used record, from s to e and with this key
pub record IsUsed (plan : PlanValue) (r : DataRecord) (s e : ℕ) (key : List Cell) : Type 0 where
  pub used : class_of plan r ≡ Used
  pub start : start_of plan.choices.times r ≡ Some s
  pub end : end_of plan.choices.times r ≡ Some e
  pub cells : key_of plan r ≡ Some key
  pub forward : s ≤ e
  pub in_time : e < 2 ^ 50
  pub in_spread : is_too_long plan s e ≡ false
