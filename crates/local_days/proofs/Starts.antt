-- When a date begins, and the interval that it begins.
use Rattle.std.proofs.Common.{◌≡◌, ℕ, ◌+◌, ◌*◌, ◌<◌, ◌≤◌, Bool, true, false, ◌∙◌, ap, ap₂, sym, subst, refl, arith, ℤ, pos, ◌+ℤ◌, ◌*ℤ◌, ◌-ℤ◌, ◌<ℤ◌}
use Rattle.std.specs.Prelude.{IfNone, IfSome, Option, Some, None, Result, Ok, Err, IsOk, int_div}
use Rattle.jiff.specs.Words.{IsDateIn}
use Rattle.jiff_core.specs.declared.civil.date.Date.{Date}
use Rattle.jiff_core.specs.declared.civil.datetime.DateTime.{DateTime}
use Rattle.jiff_core.specs.declared.error.Error.{Error}
use Rattle.jiff_core.specs.declared.offset.Offset.{Offset}
use Rattle.jiff_core.specs.Date.{epoch_day}
use Rattle.jiff_core.specs.DateTime.{civil_nanos}
use Rattle.jiff_core.specs.Time.{time_nanos}
use Rattle.jiff_core.specs.Timestamp.{IsTimestampNanos}
use Rattle.jiff_core.proofs.DateTimeLemmas.{civil_nanos-parts}
use Rattle.jiff_core.proofs.SignedLemmas.{signed_arith}
use Rattle.jiff_tz.specs.Ambiguous.{compatible_offset, instant_of}
use Rattle.jiff_tz.specs.Zone.{ambiguous_at}
use Rattle.jiff_tz.specs.declared.timezone.TimeZone.{TimeZone}
use Rattle.jiff_zoned.specs.Zoned.{picked_instant}
use Rattle.jiff_zoned.proofs.SameLemmas.{same_date, same_datetime}
use Rattle.jiff.specs.ZonedView.{plain_zoned}
use Rattle.jiff.specs.declared.zoned.Zoned.{Zoned}
use Rattle.local_days.specs.LocalDays.{BeginsAt, IsStart, begins_on}
use Rattle.local_days.specs.Pushed.{BeginsNever, StartsNever}
use Rattle.local_days.specs.declared.borders.TheConstants.{LAST_DAY}
use Rattle.local_days.specs.declared.local_interval.LocalInterval.{LocalInterval}

-- there is one midnight of a date
same_midnight : (a b : DateTime) → a.date ≡ b.date → time_nanos a.time ≡ 0 → time_nanos b.time ≡ 0 → a ≡ b
same_midnight a b dates zero_a zero_b =
    let same : civil_nanos a ≡ civil_nanos b = civil_nanos-parts a ∙ ap₂ (λ (d : Date) (n : ℕ). epoch_day d *ℤ pos 86_400_000_000_000 +ℤ pos n) dates (zero_a ∙ sym zero_b) ∙ sym (civil_nanos-parts b) in
    same_datetime a b same

-- and one time that a date begins at
picked_once : (zone : TimeZone) (date : Date) (a b : DateTime) → a.date ≡ date → time_nanos a.time ≡ 0 → b.date ≡ date → time_nanos b.time ≡ 0 → picked_instant zone a ≡ picked_instant zone b
picked_once zone date a b of_a zero_a of_b zero_b = ap (picked_instant zone) (same_midnight a b (of_a ∙ sym of_b) zero_a zero_b)

same_number : (s t : ℕ) → pos s ≡ pos t → s ≡ t
same_number s t same = cc

begins_once : (zone : TimeZone) (date : Date) (s t : ℕ) → BeginsAt zone date s → BeginsAt zone date t → s ≡ t
begins_once zone date s t one two =
    same_number s t (one.is ∙ ap (λ n. int_div n (pos 1_000_000)) (picked_once zone date one.midnight two.midnight one.of_date one.at_zero two.of_date two.at_zero) ∙ sym two.is)

pub starts_once : (interval : LocalInterval) (zone : TimeZone) (day s t : ℕ) → IsStart interval zone day s → IsStart interval zone day t → s ≡ t
starts_once interval zone day s t one two =
    let same = same_date one.date two.date (one.is_day ∙ sym two.is_day) in
    begins_once zone two.date s t (subst (λ (d : Date). BeginsAt zone d s) same one.begins) two.begins

pub some_begin : (o : Option ℕ) (zone : TimeZone) (date : Date) (z : Zoned) → IsDateIn date zone (Ok z) → IfSome o (λ time. pos time ≡ int_div (plain_zoned z).timestamp.nanosecond (pos 1_000_000)) → IfSome o (BeginsAt zone date)
some_begin None zone date z is millisecond = tt
some_begin (Some time) zone date z is millisecond =
    record { midnight = is.0; of_date = is.1; at_zero = is.2; is = millisecond ∙ ap (λ n. int_div n (pos 1_000_000)) is.3.value }

not_negative : (time : ℕ) (n : ℤ) → pos time ≡ n → n <ℤ pos 0 → ⊥
not_negative time n is negative = absurd (omega (arith, signed_arith, is, negative))

never_before : (zone : TimeZone) (date : Date) (z : Zoned) → IsDateIn date zone (Ok z) → int_div (plain_zoned z).timestamp.nanosecond (pos 1_000_000) <ℤ pos 0 → BeginsNever zone date
never_before zone date z is negative = λ time begins.
    let same : (plain_zoned z).timestamp.nanosecond ≡ picked_instant zone begins.midnight = is.3.value ∙ picked_once zone date is.0 begins.midnight is.1 is.2 begins.of_date begins.at_zero in
    not_negative time _ (begins.is ∙ ap (λ n. int_div n (pos 1_000_000)) (sym same)) negative

pub no_begin : (o : Option ℕ) (zone : TimeZone) (date : Date) (z : Zoned) → IsDateIn date zone (Ok z) → IfNone o (int_div (plain_zoned z).timestamp.nanosecond (pos 1_000_000) <ℤ pos 0)
    → IfNone o ((day : ℕ) → day ≤ LAST_DAY → epoch_day date ≡ pos day → BeginsNever zone date)
no_begin (Some time) zone date z is negative = tt
no_begin None zone date z is negative = λ day upto is_day. never_before zone date z is negative

-- midnights up to the last day are within the range of instants, at each offset
in_range : (midnight : DateTime) (offset : Offset) (day : ℕ) → day ≤ LAST_DAY → epoch_day midnight.date ≡ pos day → time_nanos midnight.time ≡ 0 → IsTimestampNanos (instant_of midnight offset)
in_range midnight offset day upto is_day at_zero = omega (arith, signed_arith, civil_nanos-parts midnight, offset.in_range, upto, is_day, at_zero)

pub within : (zone : TimeZone) (date : Date) (e : Error) → IsDateIn date zone (Err e) → (day : ℕ) → day ≤ LAST_DAY → epoch_day date ≡ pos day → BeginsNever zone date
within zone date e is day upto is_day = λ time begins.
    let midnight = is.0 in
    let inside = in_range midnight (compatible_offset (ambiguous_at zone midnight)) day upto (ap epoch_day is.1 ∙ is_day) is.2 in
    let both : false ≡ true = is.3.succeeds.1 inside in
    absurd cc

-- ---- the interval of a day

pub some_start : (o : Option ℕ) (interval : LocalInterval) (zone : TimeZone) (day : ℕ) (date : Date) → epoch_day date ≡ pos day → begins_on interval date ≡ true → IfSome o (BeginsAt zone date) → IfSome o (IsStart interval zone day)
some_start None interval zone day date is_day first begins = tt
some_start (Some time) interval zone day date is_day first begins = record { date = date; is_day = is_day; first = first; begins = begins }

pub no_start : (o : Option ℕ) (interval : LocalInterval) (zone : TimeZone) (day : ℕ) (date : Date) → epoch_day date ≡ pos day → day ≤ LAST_DAY → IfNone o ((n : ℕ) → n ≤ LAST_DAY → epoch_day date ≡ pos n → BeginsNever zone date)
    → IfNone o (StartsNever interval zone day)
no_start (Some time) interval zone day date is_day upto never = tt
no_start None interval zone day date is_day upto never = λ time start.
    let same = same_date start.date date (start.is_day ∙ sym is_day) in
    never day upto is_day time (subst (λ (d : Date). BeginsAt zone d time) same start.begins)

pub not_first : (interval : LocalInterval) (zone : TimeZone) (day : ℕ) (date : Date) → epoch_day date ≡ pos day → begins_on interval date ≡ false → StartsNever interval zone day
not_first interval zone day date is_day other = λ time start.
    let same = same_date start.date date (start.is_day ∙ sym is_day) in
    let both : true ≡ false = sym start.first ∙ ap (begins_on interval) same ∙ other in
    absurd cc
