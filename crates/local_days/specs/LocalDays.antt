-- When local days and months begin.
use Rattle.std.specs.Prelude.{◌≡◌, ◌⊎◌, ℕ, ◌==◌, ◌<◌, ◌≤◌, ◌^◌, pos, int_div, Bool, true, List, length, slice_index_or}
use Rattle.jiff_core.specs.Date.{epoch_day}
use Rattle.jiff_core.specs.Time.{time_nanos}
use Rattle.jiff_core.specs.declared.civil.date.Date.{Date}
use Rattle.jiff_core.specs.declared.civil.datetime.DateTime.{DateTime}
use Rattle.jiff_tz.specs.declared.timezone.TimeZone.{TimeZone}
use Rattle.jiff_zoned.specs.Zoned.{picked_instant}
use Rattle.local_days.specs.declared.borders.TheConstants.{LAST_DAY}
use Rattle.local_days.specs.declared.local_interval.LocalInterval.{LocalInterval}
use Rattle.local_days.specs.declared.local_interval.LocalInterval.TheVariants.{Day, Month}

-- whether an interval begins on a date: a day does on each, and a month on its first
abbrev pub begins_on : LocalInterval → Date → Bool
begins_on Day date = true
begins_on Month date = date.day == 1

-- a date begins in a zone at this millisecond since 1970-01-01 UTC, that of its midnight: of two the earlier, and where the
-- clock skips midnight, the first that it shows after it
pub record BeginsAt (zone : TimeZone) (date : Date) (time : ℕ) : Type 0 where
  pub midnight : DateTime
  pub of_date : midnight.date ≡ date
  pub at_zero : time_nanos midnight.time ≡ 0
  pub is : pos time ≡ int_div (picked_instant zone midnight) (pos 1_000_000)

-- an interval begins on the day of this number, counted from 1970-01-01, at this time
pub record IsStart (interval : LocalInterval) (zone : TimeZone) (day time : ℕ) : Type 0 where
  pub date : Date
  pub is_day : epoch_day date ≡ pos day
  pub first : begins_on interval date ≡ true
  pub begins : BeginsAt zone date time

-- a time is one of the borders
abbrev pub IsAmong : List ℕ → ℕ → Type 0
IsAmong borders time = (k : ℕ) × (k < length borders) × (slice_index_or borders k 0 ≡ time)

-- an interval of an earlier day begins later: so it is only where a clock is set back by a day or more
pub record IsOvertaken (interval : LocalInterval) (zone : TimeZone) (day time : ℕ) : Type 0 where
  pub earlier : ℕ
  pub before : earlier < day
  pub begin : ℕ
  pub start : IsStart interval zone earlier begin
  pub later : time < begin

-- each is before those after it
abbrev pub AreRising : List ℕ → Type 0
AreRising times = (i j : ℕ) → i < j → j < length times → slice_index_or times i 0 < slice_index_or times j 0

-- 0, and after it beginnings of intervals, each before those after it; at most 2^18. Each beginning up to the last day is among
-- them, unless one of an earlier day is later
pub record AreBorders (interval : LocalInterval) (zone : TimeZone) (borders : List ℕ) : Type 0 where
  pub some : 0 < length borders
  pub few : length borders ≤ 2 ^ 18
  pub first : slice_index_or borders 0 0 ≡ 0
  pub rising : AreRising borders
  pub starts : (k : ℕ) → 0 < k → k < length borders → (day : ℕ) × (day ≤ LAST_DAY) × IsStart interval zone day (slice_index_or borders k 0)
  pub each : (day time : ℕ) → day ≤ LAST_DAY → IsStart interval zone day time → IsAmong borders time ⊎ IsOvertaken interval zone day time
