-- When the recordings of a period may be removed.
use Rattle.std.specs.Prelude.{◌≢◌, ◌≤◌, ◌+◌, ℕ, List, [], All, Option, None, Some, string_bytes}
use Rattle.std.specs.declared.alloc.Global.{Global}
use Rattle.std.specs.declared.string.String.{String}
use Rattle.std.specs.declared.vec.Vec.{Vec}
use Rattle.recording_names.specs.declared.period.Period.{Period}
use Rattle.recording_periods.specs.FinishedPeriods.{IsFinished}
use Rattle.recording_names.specs.FinishedNames.{IsFinishedName}
use Rattle.recording_periods.specs.TableStates.{IsTableState}
use Rattle.recording_periods.specs.declared.due_tables.TableState.TheVariants.{UpToDate}
use Rattle.recording_periods.specs.declared.finished_period.PeriodRule.{PeriodRule}

-- there is a receipt, and its table is of exactly these files
abbrev pub HasTableOf : List (String Global) → Option (Vec (String Global) Global) → Type 0
HasTableOf files None = ⊥
HasTableOf files (Some paths) = IsTableState files (Some paths.items) UpToDate

-- it is finished, and began so many seconds ago; its folder has finished files only, and each plan has the table of exactly these
pub record IsRemovable (rule : PeriodRule) (keep now : ℕ) (unfinished : List (String Global)) (period : Period) (names : List (String Global)) (receipts : List (Option (Vec (String Global) Global))) : Type 0 where
  pub old : period.begins + keep ≤ now
  pub finished : IsFinished rule now unfinished period.begins
  pub only_files : All (λ name. IsFinishedName (string_bytes name)) names
  pub some_plan : receipts ≢ []
  pub tables : All (HasTableOf names) receipts
