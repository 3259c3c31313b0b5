use Rattle.std.proofs.Common.{◌≡◌, List}
use Rattle.recording_folder.specs.Recoveries.{AreLookedAfter, Looked, count_staying, log_after}
use Rattle.recording_folder.proofs.recovery.recover.Given as goal

abbrev pub invariant-loop-entry : goal.invariant-loop-entry
invariant-loop-entry g l =
    (goal.iterator-loop-entry g).can_next l.entry-iterator ×
    (goal.iterator-loop-entry g).is_finite l.entry-iterator ×
    ((files : List (Looked g.row.L.Denot)) × AreLookedAfter g.R.File.Read.remaining g.L.FinishedFiles.tells l.fn.folder l.initial.log files
    × (l.log ≡ log_after l.initial.log files) × (l.stayed ≡ count_staying files))
