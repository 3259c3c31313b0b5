use Rattle.std.proofs.Common.{◌≡◌, codes, string_bytes}
use Rattle.std.specs.VecDeque.{deque_len}
use Rattle.recording_periods.specs.PeriodFolders.{HasNoPeriod}
use Rattle.tables_folder.specs.FoundPeriods.{IsDayName}
use Rattle.tables_folder.proofs.Found.{SoFar}
use Rattle.tables_folder.proofs.found_periods.days_among.Given as goal

abbrev pub invariant-loop-name : goal.invariant-loop-name
invariant-loop-name l =
    SoFar (λ name. HasNoPeriod (string_bytes name) (codes "000000")) (λ name day. IsDayName (string_bytes name) × (day ≡ name)) l.initial.waiting.items l.waiting.items l.days.items

abbrev pub decreases-loop-name : goal.decreases-loop-name
decreases-loop-name l = deque_len l.waiting
