-- How a merge of parts by their receipts ended.
use Rattle.std.specs.Prelude.{◌≡◌, ◌⊎◌, ℕ, Bool, true, false, List, ◌++◌, Option, length, map}
use Rattle.flow_table.specs.declared.table.Table.{Table}
use Rattle.report_writing.specs.declared.reason.Reason.{Reason}
use Rattle.report_writing.specs.declared.status.Status.{Status}
use Rattle.report_writing.specs.declared.status.Status.TheVariants.{Well, SessionFault, Failed}
use Rattle.command_merge.specs.MergeLines.{files_opened_lines, merged_line}
use Rattle.command_collect.specs.Faults.{run_fault_line}
use Rattle.command_collect.specs.declared.receipts.fault.RunFault.{RunFault}
use Rattle.command_merge_receipts.specs.Lines.{counted_twice_lines, not_merged_parts_lines, parts_status_of}
use Rattle.command_merge_receipts.specs.Receipts.{IsNotDone, IsReceipted, IsWritten}
use Rattle.command_merge_receipts.specs.Stops.{AreRefused, AreTaken, StopsAmong}
use Rattle.command_merge_receipts.specs.Tables.{AreMergedInto}
use Rattle.table_parts.specs.declared.files.PartFiles.{PartFiles}
use Rattle.command_merge_receipts.specs.declared.job.MergedTo.{MergedTo}
use Rattle.command_merge_receipts.specs.declared.job.PartsJob.{PartsJob}
use Rattle.command_merge_receipts.specs.declared.not_merged.NotMergedParts.{NotMergedParts}
use Rattle.command_merge_receipts.specs.declared.taking.TakenParts.{TakenParts}

-- how a run ends whose table was written, complete or not, if that is asked to count or not
abbrev pub ended_by : Bool → Bool → Status
ended_by true strict = Well
ended_by false true = SessionFault
ended_by false false = Well

module _ {W P : Type 0} (Has : List ℕ → List ℕ → Type 0) (Refuses : List ℕ → Reason → Type 0) (job : PartsJob) (contents : W → Option (List ℕ)) (holds : P → List ℕ → Type 0) (to after : MergedTo W P) (AreTold : List ℕ → Type 0) (status : Status) where
  -- all receipts and tables were had; no input comes twice, or these two do, which is allowed; each table is the one of its receipt
  pub record HasMerged (taken : TakenParts) (table : Table) : Type 0 where
    pub are_taken : AreTaken Has job taken
    pub into : AreMergedInto Has job.merge taken.tables.items table

  -- what is told before the merged table is written: which files were opened, and which inputs are counted twice
  abbrev pub before_lines : TakenParts → List ℕ
  before_lines taken =
      files_opened_lines job.merge.verbosity (map (λ (files : PartFiles). files.table.now) job.parts.now) ++ counted_twice_lines taken.merged.inputs.items taken.twice

  -- the merged table was written, then its receipt was put, if one was asked for, and how many files and rows there are was told
  pub record EndsMerged : Type 0 where
    pub taken : TakenParts
    pub table : Table
    pub has_merged : HasMerged taken table
    pub written : IsWritten contents job table to.out after.out
    pub receipted : IsReceipted contents holds job table to after has_merged.are_taken.parts
    pub told : AreTold (before_lines taken ++ merged_line (length (map (λ (files : PartFiles). files.table.now) job.parts.now)) (length table.rows.items))
    pub status_is : status ≡ ended_by taken.merged.complete job.merge.verbosity.strict

  -- the receipts don't let the parts be merged: no table was read, nothing was written or put, and only that was told
  pub record EndsRefused : Type 0 where
    pub not_merged : NotMergedParts
    pub refused : AreRefused Has Refuses job not_merged
    pub told : AreTold (not_merged_parts_lines job.merge.verbosity not_merged)
    pub untouched : after ≡ to
    pub status_is : status ≡ parts_status_of not_merged

  -- the receipts do, and a table doesn't, or there was no memory: nothing was written or put, and it was told after the files that were opened
  pub record EndsStopped : Type 0 where
    pub taken : TakenParts
    pub are_taken : AreTaken Has job taken
    pub not_merged : NotMergedParts
    pub stops : StopsAmong Has Refuses job.merge.intervals job.merge.plan.now taken.tables.items job.merge.verbosity (λ lines. AreTold (lines ++ not_merged_parts_lines job.merge.verbosity not_merged)) not_merged
    pub untouched : after ≡ to
    pub status_is : status ≡ parts_status_of not_merged

  -- all were merged, and the table wasn't written, or then its receipt wasn't put, for the reason that was told
  pub record EndsUnfinished : Type 0 where
    pub taken : TakenParts
    pub table : Table
    pub has_merged : HasMerged taken table
    pub fault : RunFault
    pub unfinished : IsNotDone contents job table to.out to.place after fault
    pub told : AreTold (before_lines taken ++ run_fault_line fault)
    pub status_is : status ≡ Failed

  abbrev pub MergesParts : Type 0
  MergesParts = EndsMerged ⊎ EndsRefused ⊎ EndsStopped ⊎ EndsUnfinished
