-- What a merge tells on standard error.
use Rattle.std.specs.Prelude.{◌≡◌, ◌⊎◌, ℕ, List, [], ◌∷◌, ◌++◌, length}
use Rattle.flow_export.specs.declared.fault.ExportFault.{ExportFault}
use Rattle.flow_table.specs.AddedUp.{rows_in}
use Rattle.flow_table.specs.declared.table.Table.{Table}
use Rattle.output_tables.specs.ExportFaultLines.{export_fault_line}
use Rattle.output_tables.specs.TableTexts.{IsNotWritten}
use Rattle.output_tables.specs.declared.output.Output.{Output}
use Rattle.report_writing.specs.declared.status.Status.{Status}
use Rattle.report_writing.specs.declared.verbosity.Verbosity.{Verbosity}
use Rattle.command_merge.specs.MergeLines.{files_opened_lines, merged_line, not_merged_lines, status_of}
use Rattle.command_merge.specs.declared.not_merged.NotMerged.{NotMerged}
use Rattle.command_merge.specs.declared.not_merged.NotMerged.TheVariants.{NotOpened, File, Whole}

-- the files that were opened, and then how many there are and how many rows their table has
abbrev pub merge_lines : Verbosity → List (List ℕ) → Table → List ℕ
merge_lines verbosity names table = files_opened_lines verbosity names ++ merged_line (length names) (length table.rows.items)

-- of the files of these names those were opened by then: all before the one that can't be opened; all up to the one that has
-- a fault, whose number is its place; and none or all, if the fault is no file's
abbrev pub StopsBehind : List (List ℕ) → List (List ℕ) → NotMerged → Type 0
StopsBehind names opened (NotOpened path reason) = (later : List (List ℕ)) × (names ≡ opened ++ path.now ∷ later)
StopsBehind names opened (File number path fault) =
    (before : List (List ℕ)) × (later : List (List ℕ)) × (opened ≡ before ++ path.now ∷ []) × (names ≡ opened ++ later) × (number ≡ length opened)
StopsBehind names opened (Whole fault) = (opened ≡ []) ⊎ (opened ≡ names)

-- the files that were opened are told, and then why they were not merged, and nothing else; the status says so
pub record TellsNotMerged (IsDueTo : List (List ℕ) → NotMerged → Type 0) (names : List (List ℕ)) (verbosity : Verbosity) (AreTold : List ℕ → Type 0) (status : Status) : Type 0 where
  pub opened : List (List ℕ)
  pub not_merged : NotMerged
  pub due : IsDueTo opened not_merged
  pub stops : StopsBehind names opened not_merged
  pub told : AreTold (files_opened_lines verbosity opened ++ not_merged_lines verbosity not_merged)
  pub status_is : status ≡ status_of not_merged

-- all files are told, and then why their table wasn't written
abbrev pub TellsNotExported : Output → List (List ℕ) → Verbosity → Type 0 → (List ℕ → Type 0) → Table → Type 0
TellsNotExported output names verbosity IsUntouched AreTold table =
    (fault : ExportFault) × IsNotWritten output (length (rows_in table)) IsUntouched fault × AreTold (files_opened_lines verbosity names ++ export_fault_line fault)
