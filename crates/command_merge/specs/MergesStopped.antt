-- What keeps files from being merged.
use Rattle.std.specs.Prelude.{◌≡◌, ℕ, List, [], ◌∷◌, ◌++◌, All, Option}
use Rattle.std.specs.List.{flat_map}
use Rattle.std.specs.declared.io.ErrorKind.{ErrorKind}
use Rattle.ipfix_session.specs.Sources.{SourceView}
use Rattle.ipfix_session.specs.declared.driver.TheConstants.{READ_LIMIT}
use Rattle.flow_table.specs.Plans.{PlanValue}
use Rattle.flow_table.specs.SameTables.{RowValue}
use Rattle.flow_merge.specs.Merging.{CannotAdd, GiveExportsIn, IsDueIn, StandsFor}
use Rattle.flow_export.specs.declared.intervals.Intervals.{Intervals}
use Rattle.flow_merge.specs.declared.merge_fault.MergeFault.TheVariants.{OutOfMemory}
use Rattle.flow_merge.specs.declared.merging.Merging.{Merging}
use Rattle.input_sources.specs.Had.{AreOpened, IsUnread}
use Rattle.report_sessions.specs.EndedSessions.{IsSaidOf}
use Rattle.report_writing.specs.declared.reason.Reason.{Reason}
use Rattle.command_merge.specs.MergeLines.{unread_reason}
use Rattle.command_merge.specs.declared.not_merged.FileFault.{FileFault}
use Rattle.command_merge.specs.declared.not_merged.NotMerged.{NotMerged}
use Rattle.command_merge.specs.declared.not_merged.NotMerged.TheVariants.{NotOpened, File, Whole}

-- the rows of exports, one export after another
abbrev pub rows_of : List (List RowValue) → List RowValue
rows_of exports = flat_map (λ rows. rows) exports

-- the reason that a file has is what the system answered to the read of its source that failed, or none
pub record HasReason (answered : Option ErrorKind) (failed : FileFault) : Type 0 where
  pub said : Option ErrorKind
  pub is_said : IsSaidOf answered said
  pub reason : failed.reason ≡ unread_reason failed.fault said

module _ {S : Type 0} (seen : S → SourceView) (failure : S → Option ErrorKind) where
  -- the export of a source that was had as the first fact says it, and not read before, can't be added for this fault of it
  pub record FailsFile (IsHad : S → Type 0) (merging : Merging) (failed : FileFault) : Type 0 where
    pub before : S
    pub after : S
    pub had : IsHad before
    pub unread : IsUnread seen before
    pub due : (rows : List RowValue) → StandsFor merging rows → CannotAdd seen READ_LIMIT merging rows before after failed.fault
    pub why : HasReason (failure after) failed

  module _ (opens : List ℕ → S → Type 0) (start now : Option (List S)) (intervals : Intervals) (plan : PlanValue) where
    -- the files of these names were opened, none of them read before; all but the last gave an export each, and the last has this
    -- fault, after the rows of the others, and the reason that its own source answered
    pub record LastFails (names : List (List ℕ)) (failed : FileFault) : Type 0 where
      pub sources : List S
      pub last : S
      pub left : S
      pub opened : AreOpened opens names start now (sources ++ last ∷ [])
      pub unread : All (IsUnread seen) (sources ++ last ∷ [])
      pub exports : List (List RowValue)
      pub given : GiveExportsIn seen READ_LIMIT intervals plan sources exports
      pub due : IsDueIn seen READ_LIMIT intervals plan (rows_of exports) last left failed.fault
      pub why : HasReason (failure left) failed

    -- after the files of these names were opened: the next one can't be opened for such a reason; the last one has the fault; or
    -- there was no memory
    abbrev pub IsDueTo : (List ℕ → Reason → Type 0) → List (List ℕ) → NotMerged → Type 0
    IsDueTo refuses names (NotOpened path reason) = refuses path.now reason
    IsDueTo refuses names (File number path fault) = LastFails names fault
    IsDueTo refuses names (Whole fault) = fault ≡ OutOfMemory
