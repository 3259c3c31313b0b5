-- The one day that a second is in.
use Rattle.std.proofs.Common.{◌≡◌, ℕ, ◌∙◌, ap, sym, subst, arith}
use Rattle.jiff_core.specs.Date.{epoch_day}
use Rattle.jiff_core.specs.declared.civil.date.Date.{Date}
use Rattle.jiff_core.specs.declared.civil.datetime.DateTime.{DateTime}
use Rattle.jiff_core.proofs.SignedLemmas.{signed_arith}
use Rattle.jiff_tz.specs.declared.timezone.TimeZone.{TimeZone}
use Rattle.jiff_zoned.proofs.SameLemmas.{same_datetime}
use Rattle.local_days.specs.DaysShown.{IsDayAt, IsDayNumber, IsFirstDate, ShowsDate}
use Rattle.local_days.specs.declared.local_interval.LocalInterval.{LocalInterval}
use Rattle.local_days.specs.declared.local_interval.LocalInterval.TheVariants.{Day, Month}

-- a clock shows one date at a time
shown_once : (zone : TimeZone) (second : ℕ) (a b : Date) → ShowsDate zone second a → ShowsDate zone second b → a ≡ b
shown_once zone second a b one two = sym one.of_date ∙ ap (λ (t : DateTime). t.date) (same_datetime one.clock two.clock (one.shows ∙ sym two.shows)) ∙ two.of_date

-- an interval has one first date
first_once : (interval : LocalInterval) (date a b : Date) → IsFirstDate interval date a → IsFirstDate interval date b → epoch_day a ≡ epoch_day b
first_once Day date a b one two = ap epoch_day (one ∙ sym two)
first_once Month date a b one two = cc

-- and a date has one number
number_once : (first other : Date) (day next : ℕ) → epoch_day first ≡ epoch_day other → IsDayNumber first day → IsDayNumber other next → day ≡ next
number_once first other day next same one two = omega (arith, signed_arith, one, two)

pub day_once : (interval : LocalInterval) (zone : TimeZone) (second day other : ℕ) → IsDayAt interval zone second day → IsDayAt interval zone second other → day ≡ other
day_once interval zone second day other one two =
    let dates : one.date ≡ two.date = shown_once zone _ one.date two.date one.shown two.shown in
    number_once one.first two.first day other (first_once interval two.date one.first two.first (subst (λ (d : Date). IsFirstDate interval d one.first) dates one.begins) two.begins) one.number two.number
