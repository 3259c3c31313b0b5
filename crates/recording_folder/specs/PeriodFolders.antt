-- The name of a period's folder, by those of the day and of the time.
use Rattle.std.specs.Prelude.{ℕ, List, ◌++◌, codes}
use Rattle.recording_names.specs.PeriodNames.{IsPeriodName}
use Rattle.recording_names.specs.declared.period.Period.{Period}

abbrev pub IsPeriodOf : List ℕ → List ℕ → Period → Type 0
IsPeriodOf day time period = IsPeriodName period.begins (day ++ (codes "/" ++ time))
