-- The folders of periods, by the names of a day's folder and of a folder in it.
use Rattle.std.specs.Prelude.{◌≡◌, ◌<◌, ℕ, ◌/◌, ◌%◌, List, ◌++◌, codes, pos}
use Rattle.jiff_core.specs.declared.civil.date.Date.{Date}
use Rattle.jiff_core.specs.Date.{epoch_day}
use Rattle.recording_names.specs.PeriodNames.{calendar_end, date_text, time_text, two_digits}

-- a year of four digits, a month and a day of two
abbrev pub parts_text : ℕ → ℕ → ℕ → List ℕ
parts_text year month day = two_digits (year / 100) ++ two_digits (year % 100) ++ codes "-" ++ two_digits month ++ codes "-" ++ two_digits day

-- the text is the date of that day, counted from 1970-01-01, in a year that isn't before the year 0
abbrev pub IsDay : ℕ → List ℕ → Type 0
IsDay days text = (d : Date) × (year : ℕ) × (d.year ≡ pos year) × (epoch_day d ≡ pos days) × (text ≡ date_text d)

-- the two names are those of the period that begins at a second since 1970: its date, and its time of day in UTC
abbrev pub IsPeriodAt : ℕ → List ℕ → List ℕ → Type 0
IsPeriodAt begins day time = IsDay (begins / 86_400) day × (time ≡ time_text (begins % 86_400))

-- they are those of no period
abbrev pub HasNoPeriod : List ℕ → List ℕ → Type 0
HasNoPeriod day time = (begins : ℕ) → begins < calendar_end → ¬ IsPeriodAt begins day time
