-- Intervals of time, and how a flow's counters are shared among them (RFC 7015, section 5.1.1). Interval k of length L
-- is from k * L up to (k + 1) * L, in milliseconds since 1970-01-01 UTC.
use Rattle.std.specs.Prelude.{ℕ, ◌==◌, ◌+◌, ◌-◌, ◌*◌, ◌/◌, ◌%◌, ◌&&◌, nat_lt, nat_le, min, List, [], ◌∷◌, if◌then◌else◌}
use Rattle.std.specs.List.{range_with_len}
use Rattle.flow_table.specs.declared.method.Method.{Method}
use Rattle.flow_table.specs.declared.method.Method.TheVariants.{Start, End, Mid, Uniform, Proportional}
use Rattle.flow_table.specs.Plans.{PlanValue}

-- the interval of a time
abbrev pub interval_of : ℕ → ℕ → ℕ
interval_of length time = time / length

-- how many intervals a flow covers
abbrev pub spread : ℕ → ℕ → ℕ → ℕ
spread length start end = interval_of length end - interval_of length start + 1

-- the intervals that a flow covers, in order
abbrev pub covered_by : ℕ → ℕ → ℕ → List ℕ
covered_by length start end = range_with_len (interval_of length start) (spread length start end)

-- the intervals that a flow contributes to by a method
abbrev pub covers_by : Method → ℕ → ℕ → ℕ → List ℕ
covers_by Start length start end = interval_of length start ∷ []
covers_by End length start end = interval_of length end ∷ []
covers_by Mid length start end = interval_of length ((start + end) / 2) ∷ []
covers_by Uniform length start end = covered_by length start end
covers_by Proportional length start end = covered_by length start end

-- the same under a plan
abbrev pub covers : PlanValue → ℕ → ℕ → List ℕ
covers p start end = covers_by p.method p.length start end

-- all to one interval
abbrev pub whole_share : ℕ → ℕ → ℕ → ℕ
whole_share one value interval = if interval == one then value else 0

-- the same to each covered interval, and 1 more to the earliest ones until nothing is left
abbrev pub uniform_share : ℕ → ℕ → ℕ → ℕ → ℕ → ℕ
uniform_share length start end value interval =
    let low = interval_of length start in
    let n = spread length start end in
    if nat_le low interval && nat_le interval (interval_of length end)
    then value / n + (if nat_lt (interval - low) (value % n) then 1 else 0) else 0

-- how many of the milliseconds of a flow, its first and last among them, are before an interval
abbrev pub milliseconds_before : ℕ → ℕ → ℕ → ℕ → ℕ
milliseconds_before length start end interval = min (interval * length - start) (end - start + 1)

-- what is due when the milliseconds before the interval are over
abbrev pub due_before : ℕ → ℕ → ℕ → ℕ → ℕ → ℕ
due_before length start end value interval = value * milliseconds_before length start end interval / (end - start + 1)

-- in proportion to the milliseconds in the interval: what is due at its end and not yet at its begin
abbrev pub proportional_share : ℕ → ℕ → ℕ → ℕ → ℕ → ℕ
proportional_share length start end value interval =
    due_before length start end value (interval + 1) - due_before length start end value interval

-- what an interval gets of the value of a counter of a flow from start to end
abbrev pub share_by : Method → ℕ → ℕ → ℕ → ℕ → ℕ → ℕ
share_by Start length start end value interval = whole_share (interval_of length start) value interval
share_by End length start end value interval = whole_share (interval_of length end) value interval
share_by Mid length start end value interval = whole_share (interval_of length ((start + end) / 2)) value interval
share_by Uniform length start end value interval = uniform_share length start end value interval
share_by Proportional length start end value interval = proportional_share length start end value interval

-- the same under a plan
abbrev pub share : PlanValue → ℕ → ℕ → ℕ → ℕ → ℕ
share p start end value interval = share_by p.method p.length start end value interval
