use Rattle.std.proofs.Common.{◌/◌, ◌%◌, drop, sym, ap, ◌∙◌, arith}
use Rattle.recording_names.specs.PeriodNames.{two_digits}
use Rattle.recording_periods.proofs.period_folders.read_time.Goals as goal

pub returns-in_err-minute : goal.returns-in_err-minute
returns-in_err-minute c = rw c.from_residual-in_err-minute.ensures (λ second is.
    c.in_err-minute.ensures (second % 3600 / 60) (two_digits (second % 60)) (omega arith) (ap (drop 2) (sym c.in_ok-hour.ensures.1 ∙ is.1)))

pub returns-in_err-second : goal.returns-in_err-second
returns-in_err-second c = rw c.from_residual-in_err-second.ensures (λ second is.
    c.in_err-second.ensures (second % 60) _ (omega arith) (ap (drop 2) (sym c.in_ok-minute.ensures.1 ∙ ap (drop 2) (sym c.in_ok-hour.ensures.1 ∙ is.1))))
