-- What became of the text of a period's table.
use Rattle.std.specs.Prelude.{◌≡◌, ◌⊎◌, ℕ, List, None, Some}
use Rattle.table_receipts.specs.Texts.{receipt_text}
use Rattle.table_receipts.specs.Values.{ReceiptValue}
use Rattle.period_tables.specs.Standing.{IsKeptBeside, IsPutAt, IsPutOrKept, PlaceView}
use Rattle.report_writing.specs.declared.reason.Reason.{Reason}
use Rattle.command_tables.specs.Receipts.{IsNoReceiptFor, IsNotCompared, SaysOther, SaysTheSame}
use Rattle.command_tables.specs.Texts.{IsNotMade, IsTextOf}
use Rattle.command_tables.specs.declared.texts.fault.TextFault.{TextFault}
use Rattle.command_tables.specs.declared.texts.fault.TextFault.TheVariants as faults
use Rattle.command_tables.specs.declared.texts.job.TextJob.{TextJob}
use Rattle.command_tables.specs.declared.texts.making.MadeText.{MadeText}
use Rattle.command_tables.specs.declared.texts.taking.TextOutcome.{TextOutcome}
use Rattle.command_tables.specs.declared.texts.taking.TextOutcome.TheVariants.{NoTable, UpToDate, Made, NotRead, NotMade, NotPut}

-- by what contracts see of a place of tables
module _ {T : Type 0} (sees : PlaceView T) where
  -- the text that is there is that of the table of this receipt: it has a receipt that says the same
  pub record StandsFor (own : List ℕ) (begins : ℕ) (texts : T) : Type 0 where
    pub other : List ℕ
    pub stands : sees.receipt_at texts begins (Some other)
    pub same : SaysTheSame own other

  -- there is none with a receipt; or its receipt says other things
  abbrev pub StandsNot : List ℕ → ℕ → T → Type 0
  StandsNot own begins texts = sees.receipt_at texts begins None ⊎ ((other : List ℕ) × sees.receipt_at texts begins (Some other) × SaysOther own other)

  -- which of both can't be said: the receipt of the text can't be read; or one of both is none
  abbrev pub IsNotSettled : List ℕ → ℕ → T → Reason → Type 0
  IsNotSettled own begins texts reason = sees.refuses texts begins reason ⊎ ((other : List ℕ) × sees.receipt_at texts begins (Some other) × IsNotCompared own other reason)

  -- the text and the receipt were made of exactly the table that stands, and of its receipt
  pub record IsMadeOf (job : TextJob) (own : List ℕ) (begins : ℕ) (tables : T) (made : MadeText) : Type 0 where
    pub value : ReceiptValue
    pub own_is : receipt_text value ≡ own
    pub export : List ℕ
    pub stands : sees.text_at tables begins export
    pub is_text : IsTextOf job value export made

  -- the table that stands can't be read; or it isn't the one of its receipt, or not one of the plan; or its receipt is none
  abbrev pub IsNotMadeOf : TextJob → List ℕ → ℕ → T → TextFault → Type 0
  IsNotMadeOf job own begins tables (faults.NotRead reason) = sees.refuses tables begins reason ⊎ IsNoReceiptFor own reason
  IsNotMadeOf job own begins tables fault =
      (value : ReceiptValue) × (receipt_text value ≡ own) × ((export : List ℕ) × sees.text_at tables begins export × IsNotMade job value export fault)

  -- it was made, and is there with its receipt
  pub record IsMade (job : TextJob) (own : List ℕ) (begins : ℕ) (tables before after : T) : Type 0 where
    pub made : MadeText
    pub is_made : IsMadeOf job own begins tables made
    pub stands : IsPutAt sees begins after made.text.items made.receipt.items
    pub others : IsKeptBeside sees begins before after

  -- it was made, and putting it failed: it is there with its receipt, or what was there before
  pub record IsNotPut (job : TextJob) (own : List ℕ) (begins : ℕ) (reason : Reason) (tables before after : T) : Type 0 where
    pub made : MadeText
    pub is_made : IsMadeOf job own begins tables made
    pub left : IsPutOrKept sees begins before after made.text.items made.receipt.items
    pub others : IsKeptBeside sees begins before after
    pub why : sees.refuses after begins reason

  -- of a table with this receipt whose text was due
  abbrev pub IsDueOutcome : TextJob → List ℕ → ℕ → TextOutcome → T → T → T → Type 0
  IsDueOutcome job own begins Made tables before after = IsMade job own begins tables before after
  IsDueOutcome job own begins (NotMade fault) tables before after = (after ≡ before) × IsNotMadeOf job own begins tables fault
  IsDueOutcome job own begins (NotPut reason) tables before after = IsNotPut job own begins reason tables before after
  IsDueOutcome job own begins outcome tables before after = ⊥

  -- the receipt of a table stands, and the text there isn't of it
  pub record IsDue (own : List ℕ) (begins : ℕ) (tables before : T) : Type 0 where
    pub has : sees.receipt_at tables begins (Some own)
    pub due : StandsNot own begins before

  -- of any period
  abbrev pub IsTextOutcome : TextJob → ℕ → TextOutcome → T → T → T → Type 0
  IsTextOutcome job begins NoTable tables before after = (after ≡ before) × sees.receipt_at tables begins None
  IsTextOutcome job begins UpToDate tables before after =
      (after ≡ before) × ((own : List ℕ) × sees.receipt_at tables begins (Some own) × StandsFor own begins before)
  IsTextOutcome job begins (NotRead reason) tables before after =
      (after ≡ before) × (sees.refuses tables begins reason ⊎ ((own : List ℕ) × sees.receipt_at tables begins (Some own) × IsNotSettled own begins before reason))
  IsTextOutcome job begins outcome tables before after =
      (own : List ℕ) × IsDue own begins tables before × IsDueOutcome job own begins outcome tables before after
