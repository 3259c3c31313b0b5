use Rattle.std.proofs.Common.{◌++◌, ◌%◌, codes, drop, sym, ap, ◌∙◌, arith}
use Rattle.recording_names.specs.PeriodNames.{two_digits}
use Rattle.recording_periods.proofs.period_folders.date_parts.Goals as goal

pub returns-in_err-year : goal.returns-in_err-year
returns-in_err-year c = rw c.from_residual-in_err-year.ensures (λ r it.
    c.in_err-year.ensures (r.0 % 100) (codes "-" ++ two_digits r.1 ++ codes "-" ++ two_digits r.2) (omega arith) (ap (drop 2) (sym c.in_ok-century.ensures.1 ∙ it.1)))
