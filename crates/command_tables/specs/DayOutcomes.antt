-- What became of the table of a day.
use Rattle.std.specs.Prelude.{◌≡◌, ◌⊎◌, ℕ, Bool, List, None, Some, string_bytes}
use Rattle.std.specs.Borrow.{Bor}
use Rattle.recording_names.specs.declared.period.Period.{Period}
use Rattle.report_writing.specs.Lines.{LinesView}
use Rattle.report_writing.specs.Told.{AreToldTo}
use Rattle.report_writing.specs.declared.reason.Reason.{Reason}
use Rattle.report_writing.specs.declared.status.Status.TheVariants.{Failed}
use Rattle.table_parts.specs.declared.files.PartFiles.{PartFiles}
use Rattle.period_tables.specs.Standing.{IsKeptBeside, IsPutAt, IsPutOrKept, PlaceView}
use Rattle.period_tables.specs.declared.outcome.Outcome.{Outcome}
use Rattle.period_tables.specs.declared.outcome.Outcome.TheVariants.{UpToDate, FileGone, Made, NotRead, NotMade, NotPut}
use Rattle.command_tables.specs.Receipts.{IsNoReceiptFor}
use Rattle.command_tables.specs.Merged.{IsMergeOf, IsNotMerged}
use Rattle.command_tables.specs.Named.{AreNamed}
use Rattle.command_tables.specs.SaidTogether.{SaysLess, SaysNotTheirs, SaysTheirs}
use Rattle.command_tables.specs.TextsByName.{HasText, RefusesText}
use Rattle.command_tables.specs.declared.days.day_job.DayJob.{DayJob}
use Rattle.command_tables.specs.declared.days.standing.Standing.{Standing}
use Rattle.command_tables.specs.declared.days.standing.Standing.TheVariants.{Theirs, Others, Lacking}

module _ {T : Type 0} (sees : PlaceView T) where
  -- the table that is there is that of the parts: its receipt says what theirs do together
  pub record StandsNow (job : DayJob) (parts : Bor (List PartFiles)) (begins : ℕ) (tables days : T) : Type 0 where
    pub own : List ℕ
    pub stands : sees.receipt_at days begins (Some own)
    pub says : SaysTheirs (HasText sees tables) (RefusesText sees tables) job.text.at_hand parts.now own

  -- there is none with a receipt; or its receipt doesn't say so
  abbrev pub StandsNot : DayJob → Bor (List PartFiles) → ℕ → T → T → Type 0
  StandsNot job parts begins tables days =
      sees.receipt_at days begins None
      ⊎ ((own : List ℕ) × sees.receipt_at days begins (Some own) × SaysNotTheirs (HasText sees tables) (RefusesText sees tables) job.text.at_hand parts.now own)

  -- its receipt has an input, of this name, that theirs don't have any more
  pub record HasGone (job : DayJob) (parts : Bor (List PartFiles)) (begins : ℕ) (name : List ℕ) (tables days : T) : Type 0 where
    pub own : List ℕ
    pub stands : sees.receipt_at days begins (Some own)
    pub less : SaysLess (HasText sees tables) (RefusesText sees tables) job.text.at_hand parts.now own name

  -- which of the three
  abbrev pub StandsAs : DayJob → Bor (List PartFiles) → Period → T → T → Standing → Type 0
  StandsAs job parts day tables days Theirs = StandsNow job parts day.begins tables days
  StandsAs job parts day tables days Others = StandsNot job parts day.begins tables days
  StandsAs job parts day tables days (Lacking name) = HasGone job parts day.begins (string_bytes name) tables days

  -- which of them can't be said: its receipt can't be read, or is none
  abbrev pub IsNotSettled : ℕ → T → Reason → Type 0
  IsNotSettled begins days reason = sees.refuses days begins reason ⊎ ((own : List ℕ) × sees.receipt_at days begins (Some own) × IsNoReceiptFor own reason)

  -- the table and the receipt were merged of exactly the parts that stand
  abbrev pub IsMergedOf : DayJob → Bor (List PartFiles) → (List ℕ → Type 0) → T → List ℕ → List ℕ → Bool → Type 0
  IsMergedOf job parts AreTold tables text receipt fault = IsMergeOf (HasText sees tables) (RefusesText sees tables) job parts AreTold (record { text = text; receipt = receipt; fault = fault })

  -- they stand, and all others are as they were
  pub record IsMade (job : DayJob) (parts : Bor (List PartFiles)) (begins : ℕ) (AreTold : List ℕ → Type 0) (fault : Bool) (tables before after : T) : Type 0 where
    pub text : List ℕ
    pub receipt : List ℕ
    pub made : IsMergedOf job parts AreTold tables text receipt fault
    pub stands : IsPutAt sees begins after text receipt
    pub others : IsKeptBeside sees begins before after

  -- putting them failed: they stand, or what was there before
  pub record IsNotPut (job : DayJob) (parts : Bor (List PartFiles)) (begins : ℕ) (AreTold : List ℕ → Type 0) (reason : Reason) (tables before after : T) : Type 0 where
    pub text : List ℕ
    pub receipt : List ℕ
    pub fault : Bool
    pub made : IsMergedOf job parts AreTold tables text receipt fault
    pub left : IsPutOrKept sees begins before after text receipt
    pub others : IsKeptBeside sees begins before after
    pub why : sees.refuses after begins reason

  -- of a table that was due
  abbrev pub IsDueOutcome : DayJob → Bor (List PartFiles) → ℕ → (List ℕ → Type 0) → Outcome → T → T → T → Type 0
  IsDueOutcome job parts begins AreTold (Made fault) tables before after = IsMade job parts begins AreTold fault tables before after
  IsDueOutcome job parts begins AreTold (NotMade status) tables before after =
      (after ≡ before) × IsNotMerged (HasText sees tables) (RefusesText sees tables) job parts AreTold status
  IsDueOutcome job parts begins AreTold (NotPut reason) tables before after = IsNotPut job parts begins AreTold reason tables before after
  IsDueOutcome job parts begins AreTold outcome tables before after = ⊥

  module _ {E : Type 0} (lines : E → LinesView) where
    -- of any
    abbrev pub IsPartsOutcome : DayJob → Bor (List PartFiles) → ℕ → Outcome → T → T → T → E → E → Type 0
    IsPartsOutcome job parts begins UpToDate tables before after told tells = (after ≡ before) × (tells ≡ told) × StandsNow job parts begins tables before
    IsPartsOutcome job parts begins (FileGone name) tables before after told tells =
        (after ≡ before) × (tells ≡ told) × HasGone job parts begins (string_bytes name) tables before
    IsPartsOutcome job parts begins (NotRead reason) tables before after told tells = (after ≡ before) × (tells ≡ told) × IsNotSettled begins before reason
    IsPartsOutcome job parts begins outcome tables before after told tells =
        StandsNot job parts begins tables before × IsDueOutcome job parts begins (AreToldTo lines told tells) outcome tables before after

    -- of the day of these periods; for want of memory for their names nothing was done
    abbrev pub IsDayOutcome : DayJob → List Period → ℕ → Outcome → T → T → T → E → E → Type 0
    IsDayOutcome job periods begins outcome tables before after told tells =
        ((parts : Bor (List PartFiles)) × AreNamed periods parts.now × IsPartsOutcome job parts begins outcome tables before after told tells)
        ⊎ ((outcome ≡ NotMade Failed) × (after ≡ before) × (tells ≡ told))
