use Rattle.recording_periods.proofs.Dates.{calendar_has, day_read, no_day}
use Rattle.recording_periods.proofs.period_folders.read_day.Goals as goal

pub returns-in_err-year-clause-day : goal.returns-in_err-year-clause-day
returns-in_err-year-clause-day c = rw c.from_residual.ensures (no_day c.args.octets.now c.in_err-year.ensures)

pub returns-in_err-date-clause-day : goal.returns-in_err-date-clause-day
returns-in_err-date-clause-day c =
    let p = c.in_ok-year.ensures in
    rw c.from_residual-in_err-date.ensures (λ days it. c.in_err-date.ensures.none (calendar_has c.args.octets.now c.in_ok-year.year c.in_ok-year.month c.in_ok-year.day p.0.0 p.0.1 p.0.2 p.1 days it))

pub returns-clause-day : goal.returns-clause-day
returns-clause-day c =
    let p = c.in_ok-year.ensures in
    day_read c.args.octets.now c.in_ok-year.year c.in_ok-year.month c.in_ok-year.day p.0.0 p.0.1 p.0.2 p.1 c.in_ok-date.date c.in_ok-date.ensures.date c.days_of.result c.days_of.ensures.day
