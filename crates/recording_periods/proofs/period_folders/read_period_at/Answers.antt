use Rattle.std.proofs.Common.{◌/◌, sym, subst, ◌∙◌, arith}
use Rattle.recording_periods.specs.PeriodFolders.{IsDay}
use Rattle.recording_periods.proofs.Dates.{period_is}
use Rattle.recording_periods.proofs.period_folders.read_period_at.Goals as goal

pub returns-in_err-days-clause-none : goal.returns-in_err-days-clause-none
returns-in_err-days-clause-none c = rw c.from_residual.ensures (λ begins early it. c.in_err-days.ensures.day (begins / 86_400) (subst (IsDay (begins / 86_400)) (sym c.as_bytes.ensures.value) it.0))

pub returns-clause-read : goal.returns-clause-read
returns-clause-read c = period_is c.in_ok-days.days c.in_ok-second.second _ c.args.day.now c.args.time.now c.in_ok-second.ensures.0 (omega (arith, c.from.ensures, c.from-2.ensures))
    (subst (IsDay c.in_ok-days.days) c.as_bytes.ensures.value c.in_ok-days.ensures.day) (sym c.as_bytes-2.ensures.value ∙ c.in_ok-second.ensures.1)
