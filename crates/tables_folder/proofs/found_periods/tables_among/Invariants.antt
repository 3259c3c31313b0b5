use Rattle.std.proofs.Common.{length, string_bytes}
use Rattle.tables_folder.specs.FoundPeriods.{HasNoTable, IsTableAt}
use Rattle.tables_folder.proofs.Found.{SoFar}
use Rattle.tables_folder.proofs.found_periods.tables_among.Given as goal

abbrev pub invariant-loop-name : goal.invariant-loop-name
invariant-loop-name l =
    SoFar (λ name. HasNoTable l.day (string_bytes name)) (λ name period. IsTableAt period.begins l.day (string_bytes name)) l.names l.left l.periods.items

abbrev pub decreases-loop-name : goal.decreases-loop-name
decreases-loop-name l = length l.left
