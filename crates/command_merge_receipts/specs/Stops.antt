-- What keeps parts from being merged.
use Rattle.std.specs.Prelude.{◌≡◌, ◌⊎◌, ℕ, ◌+◌, List, [], ◌∷◌, ◌++◌, None, get_or, length, map}
use Rattle.flow_export.specs.declared.intervals.Intervals.{Intervals}
use Rattle.flow_table.specs.Plans.{PlanValue}
use Rattle.flow_table.specs.SameTables.{RowValue}
use Rattle.flow_merge.specs.Merging.{StandsFor, merging_intervals, merging_plan}
use Rattle.flow_merge.specs.declared.merge_fault.MergeFault.TheVariants.{OutOfMemory}
use Rattle.flow_merge.specs.declared.merging.Merging.{Merging}
use Rattle.receipt_merging.specs.Judging.{AreMerged, IsJudgementOf, MayBeMerged, MayComeTwice}
use Rattle.receipt_merging.specs.Parts.{PartValue}
use Rattle.receipt_merging.specs.declared.merging.Judgement.{Judgement}
use Rattle.receipt_merging.specs.declared.merging.Judgement.TheVariants as judged
use Rattle.receipt_merging.specs.declared.merging.MergedParts.{MergedParts}
use Rattle.receipt_merging.specs.declared.part_fault.PartFault.TheVariants as faults
use Rattle.report_writing.specs.OpeningLines.{if_verbose}
use Rattle.report_writing.specs.declared.reason.Reason.{Reason}
use Rattle.report_writing.specs.declared.verbosity.Verbosity.{Verbosity}
use Rattle.command_merge.specs.MergeLines.{file_opened_line, files_opened_lines, unread_reason}
use Rattle.command_merge.specs.declared.not_merged.NotMerged.TheVariants.{NotOpened, File, Whole}
use Rattle.table_parts.specs.Parts.{AreParts, IsFirstUnread}
use Rattle.table_parts.specs.Tables.{HasInput, IsItsTable, tables_said}
use Rattle.command_merge_receipts.specs.Tables.{AddsText, AreExports, CannotAddText, IsTableText, rows_of}
use Rattle.table_parts.specs.declared.files.PartFiles.{PartFiles}
use Rattle.command_merge_receipts.specs.declared.job.PartsJob.{PartsJob}
use Rattle.command_merge_receipts.specs.declared.not_merged.NotMergedParts.{NotMergedParts}
use Rattle.command_merge_receipts.specs.declared.taking.TakenParts.{TakenParts}
use Rattle.command_merge_receipts.specs.declared.not_merged.NotMergedParts.TheVariants.{NotMerged, Receipt, Part, InputTwice}
use Rattle.table_parts.specs.declared.tables.PartTable.{PartTable}

-- ---- by the receipts

-- the files at a place, counted from 0, by their number, counted from 1
pub record IsNumbered (all : List PartFiles) (place number : ℕ) (files : PartFiles) : Type 0 where
  pub numbered : number ≡ place + 1
  pub is : get_or all place files ≡ files

-- the receipts were read, and this is the judgement of them
pub record AreJudged (Has : List ℕ → List ℕ → Type 0) (job : PartsJob) (judgement : Judgement) : Type 0 where
  pub parts : List PartValue
  pub read : AreParts Has job.plan job.parts.now parts
  pub judged : IsJudgementOf job.allowed parts judgement

-- the receipts were read, and their parts may be merged: none of their inputs comes twice, or these two do, which is allowed
pub record AreTaken (Has : List ℕ → List ℕ → Type 0) (job : PartsJob) (taken : TakenParts) : Type 0 where
  pub parts : List PartValue
  pub read : AreParts Has job.plan job.parts.now parts
  pub may_be : MayBeMerged job.allowed parts
  pub together : AreMerged parts taken.merged
  pub may_come : MayComeTwice job.allowed parts taken.twice
  pub tables_are : taken.tables.items ≡ tables_said job.parts.now parts

-- the receipts keep the parts from being merged, before any table is read: one isn't had; or one is of another plan; or else isn't
-- complete; or else an input comes twice, of which the second is the file's; or there was no memory
abbrev pub AreRefused : (Has : List ℕ → List ℕ → Type 0) → (Refuses : List ℕ → Reason → Type 0) → PartsJob → NotMergedParts → Type 0
AreRefused Has Refuses job (NotMerged (Whole fault)) = fault ≡ OutOfMemory
AreRefused Has Refuses job (NotMerged (NotOpened path reason)) = ⊥
AreRefused Has Refuses job (NotMerged (File number path fault)) = ⊥
AreRefused Has Refuses job (Receipt number files why) = IsFirstUnread Has Refuses job.plan job.parts.now number files why
AreRefused Has Refuses job (Part number files faults.OtherPlan) = (place : ℕ) × AreJudged Has job (judged.OtherPlan place) × IsNumbered job.parts.now place number files
AreRefused Has Refuses job (Part number files faults.Incomplete) = (place : ℕ) × AreJudged Has job (judged.Incomplete place) × IsNumbered job.parts.now place number files
AreRefused Has Refuses job (Part number files fault) = ⊥
AreRefused Has Refuses job (InputTwice number files inputs first second) =
    (merged : MergedParts) × (inputs ≡ merged.inputs) × (judged : AreJudged Has job (judged.InputTwice merged first second)) × HasInput (tables_said job.parts.now judged.parts) second number files

-- the part that has the second of two inputs that are the same, if there was memory
abbrev pub IsTwice : List PartTable → MergedParts → ℕ → ℕ → NotMergedParts → Type 0
IsTwice tables merged first second (InputTwice number files inputs one other) = (inputs ≡ merged.inputs) × (one ≡ first) × (other ≡ second) × HasInput tables second number files
IsTwice tables merged first second (NotMerged (Whole fault)) = fault ≡ OutOfMemory
IsTwice tables merged first second not_merged = ⊥

-- ---- by the tables

module _ (Has : List ℕ → List ℕ → Type 0) (Refuses : List ℕ → Reason → Type 0) where
  -- why a table isn't added to rows: it can't be had; its text is another than its receipt says; or else it has a fault
  abbrev pub FailsNext : Intervals → PlanValue → List RowValue → ℕ → PartTable → NotMergedParts → Type 0
  FailsNext intervals plan rows place table (NotMerged (NotOpened path reason)) = (path ≡ table.files.table) × Refuses path.now reason
  FailsNext intervals plan rows place table (NotMerged (File number path failed)) =
      (number ≡ place) × (path ≡ table.files.table) × (failed.reason ≡ unread_reason failed.fault None)
      × ((text : List ℕ) × IsTableText Has table text × CannotAddText intervals plan rows text failed.fault)
  FailsNext intervals plan rows place table (NotMerged (Whole fault)) = ⊥
  FailsNext intervals plan rows place table (Part number files faults.NotItsTable) =
      (number ≡ place) × (files ≡ table.files) × ((text : List ℕ) × Has files.table.now text × (IsItsTable table text → ⊥))
  FailsNext intervals plan rows place table (Part number files fault) = ⊥
  FailsNext intervals plan rows place table (Receipt number files why) = ⊥
  FailsNext intervals plan rows place table (InputTwice number files inputs first second) = ⊥

  -- the same after the rows that a merging stands for
  abbrev pub FailsAfter : Merging → ℕ → PartTable → NotMergedParts → Type 0
  FailsAfter merging number table not_merged = (rows : List RowValue) → StandsFor merging rows → FailsNext (merging_intervals merging) (merging_plan merging) rows number table not_merged

  -- those before a table were added, and it is not
  pub record FailsAt (intervals : Intervals) (plan : PlanValue) (tables before : List PartTable) (table : PartTable) (not_merged : NotMergedParts) : Type 0 where
    pub later : List PartTable
    pub are : tables ≡ before ++ table ∷ later
    pub exports : List (List RowValue)
    pub added : AreExports Has intervals plan before exports
    pub fails : FailsNext intervals plan (rows_of exports) (length before + 1) table not_merged

-- what is told of the table that is not added, before the reason: that it was opened
abbrev pub own_line : Verbosity → ℕ → PartTable → NotMergedParts → List ℕ
own_line verbosity number table (NotMerged (NotOpened path reason)) = []
own_line verbosity number table not_merged = if_verbose verbosity (file_opened_line number table.files.table.now)

abbrev pub names_in : List PartTable → List (List ℕ)
names_in tables = map (λ (table : PartTable). table.files.table.now) tables

-- a table's text was had, which is the one of its receipt, and was added
pub record AddsNext (Has : List ℕ → List ℕ → Type 0) (table : PartTable) (old new : Merging) : Type 0 where
  pub text : List ℕ
  pub has : Has table.files.table.now text
  pub adds : AddsText table text old new

-- or it was not added, which the file of this number has to tell
pub record IsNotAdded (Has : List ℕ → List ℕ → Type 0) (Refuses : List ℕ → Reason → Type 0) (merging : Merging) (number : ℕ) (table : PartTable) (verbosity : Verbosity) (AreTold : List ℕ → Type 0) (not_merged : NotMergedParts) : Type 0 where
  pub fails : FailsAfter Has Refuses merging number table not_merged
  pub told : AreTold (own_line verbosity number table not_merged)

-- a table is not added, or there was no memory; and what was told by then
pub record StopsAt (Fails : List PartTable → PartTable → NotMergedParts → Type 0) (verbosity : Verbosity) (AreTold : List ℕ → Type 0) (not_merged : NotMergedParts) : Type 0 where
  pub before : List PartTable
  pub table : PartTable
  pub fails : Fails before table not_merged
  pub told : AreTold (files_opened_lines verbosity (names_in before) ++ own_line verbosity (length before + 1) table not_merged)

abbrev pub StopsTables : (Fails : List PartTable → PartTable → NotMergedParts → Type 0) → List PartTable → Verbosity → (AreTold : List ℕ → Type 0) → NotMergedParts → Type 0
StopsTables Fails tables verbosity AreTold (NotMerged (Whole fault)) = (fault ≡ OutOfMemory) × (AreTold [] ⊎ AreTold (files_opened_lines verbosity (names_in tables)))
StopsTables Fails tables verbosity AreTold not_merged = StopsAt Fails verbosity AreTold not_merged

-- the same among all tables of a merge, of this plan and these intervals
abbrev pub StopsAmong : (Has : List ℕ → List ℕ → Type 0) (Refuses : List ℕ → Reason → Type 0) → Intervals → PlanValue → List PartTable → Verbosity → (AreTold : List ℕ → Type 0) → NotMergedParts → Type 0
StopsAmong Has Refuses intervals plan tables verbosity AreTold not_merged =
    StopsTables (FailsAt Has Refuses intervals plan tables) tables verbosity AreTold not_merged
