-- The table of a run, if it ended with one.
use Rattle.std.proofs.Common.{ℕ, List, Result, Ok, Err}
use Rattle.std.specs.Prelude.{IfErr, IfOk}
use Rattle.std.specs.Borrow.{Bor}
use Rattle.std.specs.declared.alloc.Global.{Global}
use Rattle.std.specs.declared.vec.Vec.{Vec}
use Rattle.report_writing.specs.declared.reason.Reason.{Reason}
use Rattle.report_writing.specs.declared.status.Status.{Status}
use Rattle.table_parts.specs.declared.files.PartFiles.{PartFiles}
use Rattle.command_merge_receipts.specs.declared.job.MergedEnd.{MergedEnd}
use Rattle.period_collect.specs.declared.kept_receipt.KeptReceipt.{KeptReceipt}
use Rattle.command_tables.specs.Merged.{EndsWith, EndsWithout, IsMergeOf, IsNotMerged, IsRun, merged_value}
use Rattle.command_tables.specs.declared.days.day_job.DayJob.{DayJob}
use Rattle.command_tables.specs.declared.days.merging.MergedTable.{MergedTable}

module _ (Has : List ℕ → List ℕ → Type 0) (Refuses : List ℕ → Reason → Type 0) (job : DayJob) (parts : Bor (List PartFiles)) (AreTold : List ℕ → Type 0)
    (ended : MergedEnd (Vec ℕ Global) KeptReceipt) (run : IsRun Has Refuses job parts AreTold ended) where
  pub table_of_run : (answer : Result MergedTable Status) → IfOk answer (λ made. EndsWith ended (merged_value made))
      → IfOk answer (λ made. IsMergeOf Has Refuses job parts AreTold (merged_value made))
  table_of_run (Ok made) ends = record { ended = ended; run = run; ends = ends }
  table_of_run (Err status) ends = tt

  pub no_table_of_run : (answer : Result MergedTable Status) → IfErr answer (EndsWithout ended) → IfErr answer (IsNotMerged Has Refuses job parts AreTold)
  no_table_of_run (Ok made) ends = tt
  no_table_of_run (Err status) ends = record { ended = ended; run = run; ends = ends }
