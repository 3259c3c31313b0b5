-- The local day or month that a second is in.
use Rattle.std.specs.Prelude.{◌≡◌, ◌⊎◌, ℕ, min, pos, ◌+ℤ◌, ◌<ℤ◌}
use Rattle.jiff_core.specs.Date.{epoch_day, IsYmd}
use Rattle.jiff_core.specs.DateTime.{civil_nanos}
use Rattle.jiff_core.specs.Timestamp.{nanos_of_seconds}
use Rattle.jiff_core.specs.declared.civil.date.Date.{Date}
use Rattle.jiff_core.specs.declared.civil.datetime.DateTime.{DateTime}
use Rattle.jiff_tz.specs.Zone.{offset_at}
use Rattle.jiff_tz.specs.declared.timezone.TimeZone.{TimeZone}
use Rattle.local_days.specs.declared.shown_day.TheConstants.{LAST_SECOND}
use Rattle.local_days.specs.declared.local_interval.LocalInterval.{LocalInterval}
use Rattle.local_days.specs.declared.local_interval.LocalInterval.TheVariants.{Day, Month}

-- the clock of a zone shows a date at a second since 1970
pub record ShowsDate (zone : TimeZone) (second : ℕ) (date : Date) : Type 0 where
  pub clock : DateTime
  pub of_date : clock.date ≡ date
  pub shows : civil_nanos clock ≡ nanos_of_seconds (pos second) +ℤ nanos_of_seconds (offset_at zone (nanos_of_seconds (pos second)))

-- the first date of the interval that a date is in: of a day itself, and of a month its first
abbrev pub IsFirstDate : LocalInterval → Date → Date → Type 0
IsFirstDate Day date first = first ≡ date
IsFirstDate Month date first = IsYmd date.year (pos date.month) (pos 1) first

-- the number of a date's day, counted from 1970-01-01, where that is the least
abbrev pub IsDayNumber : Date → ℕ → Type 0
IsDayNumber date day = (epoch_day date ≡ pos day) ⊎ ((epoch_day date <ℤ pos 0) × (day ≡ 0))

-- an interval that begins on the day of this number has a date that the clock shows then
pub record IsDayAt (interval : LocalInterval) (zone : TimeZone) (second day : ℕ) : Type 0 where
  pub date : Date
  pub shown : ShowsDate zone (min second LAST_SECOND) date
  pub first : Date
  pub begins : IsFirstDate interval date first
  pub number : IsDayNumber first day
