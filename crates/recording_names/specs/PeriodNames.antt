-- Periods of the clock, and their names in UTC.
use Rattle.std.specs.Prelude.{◌≡◌, ℕ, ◌+◌, ◌-◌, ◌*◌, ◌/◌, ◌%◌, min, List, [], ◌∷◌, ◌++◌, codes, pos, unsigned_abs}
use Rattle.jiff_core.specs.declared.civil.date.Date.{Date}
use Rattle.jiff_core.specs.Date.{epoch_day}

-- the first second after the year 9999, counted from 1970
abbrev pub calendar_end : ℕ
calendar_end = 253_402_300_800

-- the beginning of the period that a second is in: the last multiple of the length up to it; a second after the year 9999 is
-- taken for the last of that year
abbrev pub period_start : ℕ → ℕ → ℕ
period_start second every = min second (calendar_end - 1) / every * every

-- a number below 100 in two decimal digits
abbrev pub two_digits : ℕ → List ℕ
two_digits n = (48 + n / 10) ∷ (48 + n % 10) ∷ []

-- YYYY-MM-DD
abbrev pub date_text : Date → List ℕ
date_text d =
    two_digits (unsigned_abs d.year / 100) ++ two_digits (unsigned_abs d.year % 100)
    ++ codes "-" ++ two_digits d.month ++ codes "-" ++ two_digits d.day

-- HHMMSS, of a second of the day
abbrev pub time_text : ℕ → List ℕ
time_text second = two_digits (second / 3_600) ++ two_digits (second % 3_600 / 60) ++ two_digits (second % 60)

-- the text is the name of the period that begins at a second since 1970: YYYY-MM-DD/HHMMSS, its date and its time of day in UTC
abbrev pub IsPeriodName : ℕ → List ℕ → Type 0
IsPeriodName second text =
    (d : Date) × (epoch_day d ≡ pos (second / 86_400)) × (text ≡ date_text d ++ codes "/" ++ time_text (second % 86_400))
