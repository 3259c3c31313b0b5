-- Dates, and what is read of their texts.
use Rattle.std.proofs.Common.{◌≡◌, ℕ, ◌<◌, ◌≤◌, ◌+◌, ◌*◌, ◌/◌, ◌%◌, Option, Some, None, List, get_or, nat_abs, refl, sym, subst, ap, ◌∙◌, arith}
use Rattle.std.specs.Prelude.{pos}
use Rattle.jiff_core.specs.declared.civil.date.Date.{Date}
use Rattle.jiff_core.specs.Calendar.{IsDate, IsYear, days_in_month}
use Rattle.jiff_core.specs.Date.{IsYmd, epoch_day}
use Rattle.jiff_core.proofs.CalendarLemmas.{days_in_month_bounds}
use Rattle.jiff_core.proofs.SignedLemmas.{signed_arith}
use Rattle.recording_names.specs.PeriodNames.{date_text, time_text}
use Rattle.recording_periods.specs.Digits.{HaveDigits, Reads}
use Rattle.recording_periods.specs.PeriodFolders.{IsDay, IsPeriodAt, parts_text}

-- two digits are those of one number
pub one_number : (a b : ℕ) → a < 100 → b < 100 → 48 + a / 10 ≡ 48 + b / 10 → 48 + a % 10 ≡ 48 + b % 10 → a ≡ b
one_number a b few less tens units = omega (arith, few, less, tens, units)

-- the parts of a date are those of its text
module _ (year month day y m d : ℕ) (is : parts_text year month day ≡ parts_text y m d) where
  at : (i : ℕ) → get_or (parts_text year month day) i 0 ≡ get_or (parts_text y m d) i 0
  at i = ap (λ (t : List ℕ). get_or t i 0) is

  one_year : year < 10_000 → y < 10_000 → year ≡ y
  one_year few less =
      let century = one_number (year / 100) (y / 100) (omega (arith, few)) (omega (arith, less)) (at 0) (at 1) in
      let rest = one_number (year % 100) (y % 100) (omega arith) (omega arith) (at 2) (at 3) in
      omega (arith, century, rest)

  one_month : month < 100 → m < 100 → month ≡ m
  one_month few less = one_number month m few less (at 5) (at 6)

  one_day : day < 100 → d < 100 → day ≡ d
  one_day few less = one_number day d few less (at 8) (at 9)

-- a date in a year that isn't before the year 0
module _ (d : Date) (year : ℕ) (is : d.year ≡ pos year) where
  text_is : date_text d ≡ parts_text year d.month d.day
  text_is = rw is refl

  in_calendar : IsYear (pos year)
  in_calendar = subst IsYear is d.year_in

  year_small : year < 10_000
  year_small = let most = in_calendar.1 in omega (arith, signed_arith, most)

  month_small : d.month < 100
  month_small = let most = d.month_in in omega (arith, most.1)

  day_small : d.day < 100
  day_small = let most = d.day_in in omega (arith, most.1, days_in_month_bounds d.year d.month)

  is_date : IsDate (pos year) (pos d.month) (pos d.day)
  is_date =
      let month = d.month_in in
      let day = subst (λ y. (1 ≤ d.day) × (d.day ≤ days_in_month y d.month)) is (d.day_in.0, d.day_in.1) in
      (in_calendar, (omega (arith, signed_arith, month.0), omega (arith, signed_arith, month.1)), (omega (arith, signed_arith, day.0), omega (arith, signed_arith, day.1)))

-- no day has a text of another form
pub no_day : (text : List ℕ) → ((r : ℕ × ℕ × ℕ) → ¬ (HaveDigits r.0 r.1 r.2 × (text ≡ parts_text r.0 r.1 r.2))) → (days : ℕ) → ¬ IsDay days text
no_day text none days (d, y, is_y, epoch, its) = none (y, d.month, d.day) ((year_small d y is_y, month_small d y is_y, day_small d y is_y), its ∙ text_is d y is_y)

same_date : (d other : Date) → other.year ≡ d.year → other.month ≡ d.month → other.day ≡ d.day → epoch_day other ≡ epoch_day d
same_date d other y m n = rw y (rw m (rw n refl))

-- what a text of this form is
module _ (text : List ℕ) (year month day : ℕ) (y_small : year < 10_000) (m_small : month < 100) (d_small : day < 100) (is : text ≡ parts_text year month day) where
  module _ (days : ℕ) (d : Date) (y : ℕ) (is_y : d.year ≡ pos y) (its_text : text ≡ date_text d) where
    same : parts_text year month day ≡ parts_text y d.month d.day
    same = sym is ∙ its_text ∙ text_is d y is_y

    years : year ≡ y
    years = one_year year month day y d.month d.day same y_small (year_small d y is_y)

    months : month ≡ d.month
    months = one_month year month day y d.month d.day same m_small (month_small d y is_y)

    all_days : day ≡ d.day
    all_days = one_day year month day y d.month d.day same d_small (day_small d y is_y)

  pub calendar_has : (days : ℕ) → IsDay days text → IsDate (pos year) (pos month) (pos day)
  calendar_has days (d, y, is_y, epoch, its) = rw (years days d y is_y its) (rw (months days d y is_y its) (rw (all_days days d y is_y its) (is_date d y is_y)))

  pub day_of : (date : Date) → IsYmd (pos year) (pos month) (pos day) date → (days : ℕ) → IsDay days text → epoch_day date ≡ pos days
  day_of date ymd days (d, y, is_y, epoch, its) =
      same_date d date (ymd.0 ∙ ap pos (years days d y is_y its) ∙ sym is_y) (ap nat_abs ymd.1 ∙ months days d y is_y its) (ap nat_abs ymd.2 ∙ all_days days d y is_y its) ∙ epoch

  pub is_day : (date : Date) → IsYmd (pos year) (pos month) (pos day) date → (days : ℕ) → epoch_day date ≡ pos days → IsDay days text
  is_day date ymd days epoch =
      (date, year, ymd.0, epoch, is ∙ ap (λ (m : ℕ). parts_text year m day) (sym (ap nat_abs ymd.1)) ∙ ap (λ (d : ℕ). parts_text year date.month d) (sym (ap nat_abs ymd.2)) ∙ sym (text_is date year ymd.0))

  pub day_read : (date : Date) → IsYmd (pos year) (pos month) (pos day) date → (r : Option ℕ) → Reads (λ days. epoch_day date ≡ pos days) r → Reads (λ days. IsDay days text) r
  day_read date ymd None other = λ days it. other days (day_of date ymd days it)
  day_read date ymd (Some days) epoch = is_day date ymd days epoch

-- a day and a second of it
pub period_is : (days second begins : ℕ) (day time : List ℕ) → second < 86_400 → begins ≡ days * 86_400 + second → IsDay days day → time ≡ time_text second → IsPeriodAt begins day time
period_is days second begins day time within sum is_day is_time =
    let whole : begins / 86_400 ≡ days = omega (arith, within, sum) in
    let rest : begins % 86_400 ≡ second = omega (arith, within, sum) in
    (subst (λ (n : ℕ). IsDay n day) (sym whole) is_day, is_time ∙ ap time_text (sym rest))
