-- What merging the exports in files wrote.
use Rattle.std.specs.Prelude.{◌≡◌, ◌⊎◌, ℕ, List, [], All, Option, map}
use Rattle.std.specs.Borrow.{Bor}
use Rattle.std.specs.declared.io.ErrorKind.{ErrorKind}
use Rattle.ipfix_session.specs.Sources.{SourceView}
use Rattle.report_writing.specs.declared.status.Status.{Status}
use Rattle.report_writing.specs.declared.status.Status.TheVariants as ends
use Rattle.report_writing.specs.declared.status.Status.TheVariants.{Well, Failed}
use Rattle.flow_table.specs.Plans.{PlanValue}
use Rattle.flow_table.specs.SameTables.{RowValue}
use Rattle.flow_table.specs.declared.table.Table.{Table}
use Rattle.flow_merge.specs.Merging.{merging_intervals, merging_plan, AddsAllUpIn, AddsExport, StandsFor}
use Rattle.flow_export.specs.declared.intervals.Intervals.{Intervals}
use Rattle.flow_merge.specs.declared.merging.Merging.{Merging}
use Rattle.input_sources.specs.Had.{IsOpened, IsUnread, PathsAreOpened}
use Rattle.report_writing.specs.declared.reason.Reason.{Reason}
use Rattle.output_tables.specs.TableTexts.{WritesIn}
use Rattle.ipfix_session.specs.declared.driver.TheConstants.{READ_LIMIT}
use Rattle.report_writing.specs.declared.verbosity.Verbosity.{Verbosity}
use Rattle.command_merge.specs.MergeLines.{file_told, files_opened_lines}
use Rattle.command_merge.specs.MergesStopped.{FailsFile, IsDueTo}
use Rattle.command_merge.specs.MergesTold.{merge_lines, StopsBehind, TellsNotExported, TellsNotMerged}
use Rattle.command_merge.specs.declared.job.MergeJob.{MergeJob}
use Rattle.command_merge.specs.declared.not_merged.FileFault.{FileFault}
use Rattle.command_merge.specs.declared.not_merged.NotMerged.{NotMerged}
use Rattle.command_merge.specs.declared.not_merged.NotMerged.TheVariants.{NotOpened, File, Whole}

-- the names of the files that paths name
abbrev pub names_of : List (Bor (List ℕ)) → List (List ℕ)
names_of paths = map (λ (path : Bor (List ℕ)). path.now) paths

module _ {S : Type 0} (seen : S → SourceView) where
  -- sources were had as the first fact says it, none of which was read before; each gave an export, and the rows of all of
  -- them, added up, are those of the table
  pub record IsMerged (AreHad : List S → Type 0) (intervals : Intervals) (plan : PlanValue) (table : Table) : Type 0 where
    pub sources : List S
    pub had : AreHad sources
    pub unread : All (IsUnread seen) sources
    pub added_up : AddsAllUpIn seen READ_LIMIT intervals plan sources table

  -- that table was written and told as the last two facts say it
  pub record EndsMerged (AreHad : List S → Type 0) (intervals : Intervals) (plan : PlanValue) (IsWritten IsTold : Table → Type 0) : Type 0 where
    pub table : Table
    pub merged : IsMerged AreHad intervals plan table
    pub written : IsWritten table
    pub told : IsTold table

  -- what the status of a merge of the files of these names says
  pub record RunsMerge {W : Type 0} (AreHad : List S → Type 0) (IsDueTo : List (List ℕ) → NotMerged → Type 0) (job : MergeJob) (names : List (List ℕ)) (contents : W → Option (List ℕ)) (old new : W) (AreTold : List ℕ → Type 0) (status : Status) : Type 0 where
    pub statuses : (status ≡ Well) ⊎ (status ≡ ends.NotOpened) ⊎ (status ≡ Failed)
    -- their rows were written, by the names that elements have under files; and how many files and rows there are was told, and
    -- nothing else
    pub table : status ≡ Well → EndsMerged AreHad job.intervals job.plan.now (WritesIn job.intervals job.elements.now job.plan.now job.output (contents old) (contents new)) (λ table. AreTold (merge_lines job.verbosity names table))
    -- nothing was written unless all were opened, and the one that can't be was told;
    pub not_opened : status ≡ ends.NotOpened → (new ≡ old) × TellsNotMerged IsDueTo names job.verbosity AreTold status
    -- nor unless all were merged, and the fault was told; else the table was had, and why it wasn't written was told
    pub failed : status ≡ Failed → ((new ≡ old) × TellsNotMerged IsDueTo names job.verbosity AreTold status) ⊎ ((table : Table) × IsMerged AreHad job.intervals job.plan.now table × TellsNotExported job.output names job.verbosity (new ≡ old) AreTold table)

  -- the export of a source that was had as the first fact says it, and not read before, is added
  pub record AddsFile (IsHad : S → Type 0) (old new : Merging) : Type 0 where
    pub before : S
    pub after : S
    pub had : IsHad before
    pub unread : IsUnread seen before
    pub same_plan : merging_plan new ≡ merging_plan old
    pub same_intervals : merging_intervals new ≡ merging_intervals old
    pub adds : (rows : List RowValue) → StandsFor old rows → AddsExport seen READ_LIMIT old before after rows new

-- why the file of this name and number was not added, and what was told by then
abbrev pub IsNotAddedFor : (Reason → Type 0) → (FileFault → Type 0) → Verbosity → ℕ → List ℕ → (List ℕ → Type 0) → NotMerged → Type 0
IsNotAddedFor Refuses Fails verbosity file name AreTold (NotOpened path reason) = (path.now ≡ name) × Refuses reason × AreTold []
IsNotAddedFor Refuses Fails verbosity file name AreTold (File number path fault) = (number ≡ file) × (path.now ≡ name) × Fails fault × AreTold (file_told verbosity file name)
IsNotAddedFor Refuses Fails verbosity file name AreTold (Whole fault) = ⊥

module _ {S O : Type 0} (seen : S → SourceView) (failure : S → Option ErrorKind) (opens : O → List ℕ → S → Type 0) (refuses : O → List ℕ → Reason → Type 0) (coming : O → Option (List S)) (before after : O) where
  -- the same of a file that is opened by its name
  abbrev pub IsNotAdded : Merging → Verbosity → ℕ → List ℕ → (List ℕ → Type 0) → NotMerged → Type 0
  IsNotAdded merging verbosity file name AreTold not_merged =
      IsNotAddedFor (refuses before name) (FailsFile seen failure (IsOpened (opens before name) (coming before) (coming after)) merging) verbosity file name AreTold not_merged

  -- what keeps files from being merged that are opened by their names
  abbrev pub IsDueOpened : Intervals → PlanValue → List (List ℕ) → NotMerged → Type 0
  IsDueOpened intervals plan names not_merged = IsDueTo seen failure (opens before) (coming before) (coming after) intervals plan (refuses before) names not_merged

  -- what the status of a merge of the files of these paths says
  abbrev pub MergesFiles : {W : Type 0} → List (Bor (List ℕ)) → MergeJob → (W → Option (List ℕ)) → W → W → (List ℕ → Type 0) → Status → Type 0
  MergesFiles paths job contents old new AreTold status =
      RunsMerge seen (PathsAreOpened opens coming before after paths) (IsDueOpened job.intervals job.plan.now) job (names_of paths) contents old new AreTold status

-- why files were not merged, and which of them were told as opened by then
pub record StopsMerge (IsDueTo : List (List ℕ) → NotMerged → Type 0) (names : List (List ℕ)) (verbosity : Verbosity) (AreTold : List ℕ → Type 0) (not_merged : NotMerged) : Type 0 where
  pub opened : List (List ℕ)
  pub due : IsDueTo opened not_merged
  pub stops : StopsBehind names opened not_merged
  pub told : AreTold (files_opened_lines verbosity opened)
