-- What became of the tables of periods.
use Rattle.std.specs.Prelude.{◌≡◌, ◌⊎◌, ℕ, Bool, List, Option, Some, string_bytes}
use Rattle.std.specs.Borrow.{Bor}
use Rattle.std.specs.declared.alloc.Global.{Global}
use Rattle.std.specs.declared.string.String.{String}
use Rattle.std.specs.declared.vec.Vec.{Vec}
use Rattle.recording_periods.specs.FinishedPeriods.{IsFinished, IsPeriodState}
use Rattle.recording_periods.specs.PeriodFiles.{AreFilesOf}
use Rattle.recording_periods.specs.TableStates.{IsTableState}
use Rattle.recording_periods.specs.declared.due_tables.TableState.{TableState}
use Rattle.recording_periods.specs.declared.due_tables.TableState.TheVariants as table
use Rattle.recording_periods.specs.declared.finished_period.PeriodRule.{PeriodRule}
use Rattle.recording_periods.specs.declared.finished_period.PeriodState.TheVariants as state
use Rattle.report_writing.specs.declared.reason.Reason.{Reason}
use Rattle.report_writing.specs.declared.reason.Reason.TheVariants.{OutOfMemory}
use Rattle.ipfix_session.specs.declared.source.Source as source
use Rattle.input_sources.specs.declared.opening.OpenSource as opening
use Rattle.report_writing.specs.declared.write_lines.WriteLines as writing
use Rattle.period_collect.specs.MadeTables.{IsNotMade, IsTableOf}
use Rattle.period_collect.specs.declared.maker.MadeTable.{MadeTable}
use Rattle.period_collect.specs.declared.maker.TableMaker.{TableMaker}
use Rattle.recording_names.specs.declared.period.Period.{Period}
use Rattle.period_tables.specs.Listings.{ListsPeriod}
use Rattle.period_tables.specs.Standing.{IsKeptBeside, IsPutAt, IsPutOrKept, NamesFiles, items_of}
use Rattle.period_tables.specs.declared.desk.Desk.{Desk}
use Rattle.period_tables.specs.declared.place.TablePlace as placing
use Rattle.period_tables.specs.declared.recordings.Recordings as recordings
use Rattle.period_tables.specs.declared.outcome.Outcome.{Outcome}
use Rattle.period_tables.specs.declared.outcome.Outcome.TheVariants.{NotOver, HeldUp, UpToDate, FileGone, Made, NotRead, NotMade, NotPut}

-- a desk at which the tables of a folder's periods are made
abbrev pub TablesDesk : {S O E T : Type 0} → Type 0 → source.Ghosts S → opening.Ghosts O S → writing.Ghosts E → placing.Ghosts T → Type 0
TablesDesk {S} {O} {E} {T} F as_source as_opener as_writer as_place = Desk F (TableMaker S O E as_source as_opener as_writer) T as_place

-- that a file of this path is gone; or there was no memory for that
abbrev pub IsGoneOutcome : List ℕ → Outcome → Type 0
IsGoneOutcome path (FileGone gone) = path ≡ string_bytes gone
IsGoneOutcome path (NotRead reason) = reason ≡ OutOfMemory
IsGoneOutcome path outcome = ⊥

module _ {F S O E T : Type 0} {as_source : source.Ghosts S} {as_opener : opening.Ghosts O S} {as_writer : writing.Ghosts E} {as_place : placing.Ghosts T} where
  -- the table of these files, and exactly these, was made, and is there with its receipt
  pub record IsMade (begins : ℕ) (files : List (String Global)) (fault : Bool) (before after : TablesDesk F as_source as_opener as_writer as_place) : Type 0 where
    pub table : MadeTable
    pub made : IsTableOf before.maker after.maker begins files table
    pub fault_is : fault ≡ table.had_fault
    pub stands : IsPutAt as_place.seen begins after.tables table.text.items table.receipt.items
    pub others : IsKeptBeside as_place.seen begins before.tables after.tables
    pub same_job : after.maker.job ≡ before.maker.job

  -- it was made, and putting it failed: it is there with its receipt, or what was there before
  pub record IsNotPut (begins : ℕ) (files : List (String Global)) (reason : Reason) (before after : TablesDesk F as_source as_opener as_writer as_place) : Type 0 where
    pub table : MadeTable
    pub made : IsTableOf before.maker after.maker begins files table
    pub left : IsPutOrKept as_place.seen begins before.tables after.tables table.text.items table.receipt.items
    pub others : IsKeptBeside as_place.seen begins before.tables after.tables
    pub same_job : after.maker.job ≡ before.maker.job
    pub why : as_place.seen.refuses after.tables begins reason

  -- of a period of which the table of these files was due
  abbrev pub IsDueOutcome : ℕ → List (String Global) → Outcome → TablesDesk F as_source as_opener as_writer as_place → TablesDesk F as_source as_opener as_writer as_place → Type 0
  IsDueOutcome begins files (Made fault) before after = IsMade begins files fault before after
  IsDueOutcome begins files (NotMade status) before after = (after.tables ≡ before.tables) × (after.maker.job ≡ before.maker.job) × IsNotMade before.maker after.maker begins files status
  IsDueOutcome begins files (NotPut reason) before after = IsNotPut begins files reason before after
  IsDueOutcome begins files outcome before after = ⊥

  -- the tables are as they were, and nothing was asked of what makes them
  abbrev pub IsUntouched : TablesDesk F as_source as_opener as_writer as_place → TablesDesk F as_source as_opener as_writer as_place → Type 0
  IsUntouched before after = (after.tables ≡ before.tables) × (after.maker ≡ before.maker)

  -- by what contracts see of the folder
  module _ (as_folder : recordings.Ghosts F) where
    -- a period's folder was listed: these are its finished files, and the receipt of its table says so of its state
    pub record IsLookedAt (begins : ℕ) (before after : TablesDesk F as_source as_opener as_writer as_place) (files : List (String Global)) (state : TableState) : Type 0 where
      pub names : List (String Global)
      pub lists : ListsPeriod as_folder.listed before.folder after.folder begins names
      pub files_of : AreFilesOf names files
      pub paths : Option (Vec (String Global) Global)
      pub receipt : NamesFiles (as_place.seen.receipt_at before.tables begins) paths
      pub state_is : IsTableState files (items_of paths) state

    -- of a period that is finished
    abbrev pub IsFinishedOutcome : ℕ → Outcome → TablesDesk F as_source as_opener as_writer as_place → TablesDesk F as_source as_opener as_writer as_place → Type 0
    IsFinishedOutcome begins NotOver before after = ⊥
    IsFinishedOutcome begins (HeldUp held) before after = ⊥
    IsFinishedOutcome begins UpToDate before after = IsUntouched before after × (files : List (String Global)) × IsLookedAt begins before after files table.UpToDate
    IsFinishedOutcome begins (FileGone gone) before after =
        IsUntouched before after × (files : List (String Global)) × (path : Bor (List ℕ)) × (path.now ≡ string_bytes gone) × IsLookedAt begins before after files (table.Gone path)
    IsFinishedOutcome begins (NotRead reason) before after =
        IsUntouched before after × (as_folder.refuses after.folder (Some begins) reason ⊎ as_place.seen.refuses after.tables begins reason ⊎ (reason ≡ OutOfMemory))
    IsFinishedOutcome begins outcome before after =
        (files : List (String Global)) × IsLookedAt begins before after files table.Due × IsDueOutcome begins files outcome before after

    -- of any period
    abbrev pub IsOutcome : PeriodRule → ℕ → List (String Global) → Period → TablesDesk F as_source as_opener as_writer as_place → TablesDesk F as_source as_opener as_writer as_place → Outcome → Type 0
    IsOutcome rule now unfinished period before after NotOver = IsPeriodState rule now unfinished period.begins state.NotOver × (after ≡ before)
    IsOutcome rule now unfinished period before after (HeldUp held) =
        (name : Bor (List ℕ)) × (name.now ≡ string_bytes held) × IsPeriodState rule now unfinished period.begins (state.HeldUp name) × (after ≡ before)
    IsOutcome rule now unfinished period before after outcome = IsFinished rule now unfinished period.begins × IsFinishedOutcome period.begins outcome before after
