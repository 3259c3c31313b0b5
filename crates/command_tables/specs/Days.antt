-- The local days and months that periods begin in.
use Rattle.std.specs.Prelude.{◌≡◌, ℕ, ◌*◌, Bool, ◌||◌, ◌==◌, nat_lt, if◌then◌else◌, List, [], ◌∷◌, ◌++◌, filter, map}
use Rattle.std.specs.List.{AllZip, list_any}
use Rattle.jiff.specs.ZoneView.{plain_zone}
use Rattle.local_days.specs.DaysShown.{IsDayAt}
use Rattle.recording_names.specs.declared.period.Period.{Period}
use Rattle.command_tables.specs.declared.days.calendar.Calendar.{Calendar}
use Rattle.command_tables.specs.declared.days.placing.PlacedPeriod.{PlacedPeriod}

-- the zone's clock shows a date of the day or month at a second since 1970, whose first date begins then in UTC
abbrev pub IsDayOf : Calendar → ℕ → ℕ → Type 0
IsDayOf calendar second begins = (day : ℕ) × IsDayAt calendar.interval (plain_zone calendar.zone) second day × (begins ≡ day * 86_400)

-- that is one day, and one month
abbrev pub EachHasOneDay : Type 0
EachHasOneDay = (calendar : Calendar) (second day other : ℕ) → IsDayOf calendar second day → IsDayOf calendar second other → day ≡ other

-- a period begins in its day
pub record IsPlaced (calendar : Calendar) (period : Period) (placed : PlacedPeriod) : Type 0 where
  pub period_is : placed.period ≡ period
  pub day_of : IsDayOf calendar period.begins placed.day.begins

abbrev pub ArePlaced : Calendar → List Period → List PlacedPeriod → Type 0
ArePlaced calendar periods placed = AllZip (IsPlaced calendar) periods placed

-- with one more day, unless it is there
abbrev pub with_day : List Period → Period → List Period
with_day days day = if list_any (λ (other : Period). other.begins == day.begins) days then days else days ++ day ∷ []

-- with those of more periods
abbrev pub days_from : List Period → List PlacedPeriod → List Period
days_from days [] = days
days_from days (one ∷ placed) = days_from (with_day days one.day) placed

-- the periods that begin in a day, in their order
abbrev pub periods_in : ℕ → List PlacedPeriod → List Period
periods_in day placed = map (λ (one : PlacedPeriod). one.period) (filter (λ (one : PlacedPeriod). one.day.begins == day) placed)

-- the clock showed a later day an hour ago; or a period begins in one
abbrev pub is_due : List PlacedPeriod → ℕ → ℕ → Bool
is_due placed hour_ago day = nat_lt day hour_ago || list_any (λ (one : PlacedPeriod). nat_lt day one.day.begins) placed
