use Rattle.std.proofs.Common.{length, string_bytes}
use Rattle.recording_periods.specs.PeriodFolders.{HasNoPeriod, IsPeriodAt}
use Rattle.tables_folder.proofs.Found.{SoFar}
use Rattle.tables_folder.proofs.found_periods.periods_among.Given as goal

abbrev pub invariant-loop-name : goal.invariant-loop-name
invariant-loop-name l =
    SoFar (λ name. HasNoPeriod l.day (string_bytes name)) (λ name period. IsPeriodAt period.begins l.day (string_bytes name)) l.names l.left l.periods.items

abbrev pub decreases-loop-name : goal.decreases-loop-name
decreases-loop-name l = length l.left
