-- The one day that a second is in.
use Rattle.std.proofs.Common.{◌≡◌, ℕ, ◌*◌, sym, ap, ◌∙◌}
use Rattle.jiff.specs.ZoneView.{plain_zone}
use Rattle.local_days.proofs.OneDay.{day_once}
use Rattle.command_tables.specs.Days.{IsDayOf}
use Rattle.command_tables.specs.declared.days.calendar.Calendar.{Calendar}

pub one_day : (calendar : Calendar) (second day other : ℕ) → IsDayOf calendar second day → IsDayOf calendar second other → day ≡ other
one_day calendar second day other one two =
    one.2 ∙ ap (λ n. n * 86_400) (day_once calendar.interval (plain_zone calendar.zone) second one.0 two.0 one.1 two.1) ∙ sym two.2
