-- What the receipts of parts say together, beside that of a day.
use Rattle.std.specs.Prelude.{◌≡◌, ◌≢◌, ◌⊎◌, ℕ, List, Option, None, Some, string_bytes}
use Rattle.receipt_merging.specs.Judging.{IsFirstNot}
use Rattle.receipt_merging.specs.Parts.{PartValue, counts_from, inputs_in, is_complete, left_out_in, no_counts}
use Rattle.report_writing.specs.declared.reason.Reason.{Reason}
use Rattle.table_parts.specs.Parts.{AreParts, IsFirstUnread}
use Rattle.table_parts.specs.declared.files.PartFiles.{PartFiles}
use Rattle.table_parts.specs.declared.plan.PlanAtHand.{PlanAtHand}
use Rattle.table_receipts.specs.Texts.{receipt_text}
use Rattle.table_receipts.specs.Values.{FitsReceipt, InputValue, ReceiptValue}
use Rattle.command_tables.specs.GoneInputs.{first_gone, not_left_out}
use Rattle.command_tables.specs.declared.days.standing.Standing.{Standing}
use Rattle.command_tables.specs.declared.days.standing.Standing.TheVariants.{Theirs, Others, Lacking}

-- a receipt with the inputs of all parts, how many of their records are of each class, what was left out, and whether that is complete
abbrev pub said_together : List PartValue → ReceiptValue → ReceiptValue
said_together parts own = record own { inputs = inputs_in parts; records = counts_from no_counts parts; left_out = left_out_in parts; complete = is_complete parts }

-- the first of its inputs that isn't among those of the parts, nor left out of them
abbrev pub gone_from : List PartValue → ReceiptValue → Option InputValue
gone_from parts own = first_gone (not_left_out (left_out_in parts) own.inputs) (inputs_in parts)

-- a text is that of a receipt that says so
pub record SaysTogether (own : List ℕ) (parts : List PartValue) : Type 0 where
  pub receipt : ReceiptValue
  pub is : receipt_text receipt ≡ own
  pub same : receipt_text (said_together parts receipt) ≡ own

-- no text of a receipt that says so; of one, all inputs are among theirs, or left out of them
pub record SaysOther (own : List ℕ) (parts : List PartValue) : Type 0 where
  pub differs : (receipt : ReceiptValue) → FitsReceipt receipt → receipt_text receipt ≡ own → receipt_text (said_together parts receipt) ≢ own
  pub lacks_none : (receipt : ReceiptValue) → FitsReceipt receipt → receipt_text receipt ≡ own → gone_from parts receipt ≡ None

-- the text of a receipt of which an input, of this name, is neither among theirs nor left out of them
pub record LacksInput (own : List ℕ) (parts : List PartValue) (name : List ℕ) : Type 0 where
  pub receipt : ReceiptValue
  pub is : receipt_text receipt ≡ own
  pub input : InputValue
  pub gone : gone_from parts receipt ≡ Some input
  pub named : input.file.name ≡ name

-- it lacks an input of this name
abbrev pub IsLacking : List ℕ → Standing → Type 0
IsLacking name (Lacking input) = string_bytes input ≡ name
IsLacking name standing = ⊥

-- which of the three
abbrev pub IsSettled : List ℕ → List PartValue → Standing → Type 0
IsSettled own parts Theirs = SaysTogether own parts
IsSettled own parts Others = SaysOther own parts
IsSettled own parts (Lacking name) = LacksInput own parts (string_bytes name)

module _ (Has : List ℕ → List ℕ → Type 0) (Refuses : List ℕ → Reason → Type 0) (plan : PlanAtHand) (parts : List PartFiles) where
  -- the receipts of the parts were read, and that of a day says what they do together
  pub record SaysTheirs (own : List ℕ) : Type 0 where
    pub values : List PartValue
    pub read : AreParts Has plan parts values
    pub says : SaysTogether own values

  -- it says other things; or a part is of another plan; or a receipt can't be had
  abbrev pub SaysNotTheirs : List ℕ → Type 0
  SaysNotTheirs own =
      ((values : List PartValue) × AreParts Has plan parts values × (SaysOther own values ⊎ ((place : ℕ) × IsFirstNot (λ part. part.has_plan) values place)))
      ⊎ ((number : ℕ) × (files : PartFiles) × (why : Option Reason) × IsFirstUnread Has Refuses plan parts number files why)

  -- that of a day has an input that theirs don't have any more
  pub record SaysLess (own name : List ℕ) : Type 0 where
    pub values : List PartValue
    pub read : AreParts Has plan parts values
    pub lacks : LacksInput own values name

  -- which of the three
  abbrev pub IsStanding : List ℕ → Standing → Type 0
  IsStanding own Theirs = SaysTheirs own
  IsStanding own Others = SaysNotTheirs own
  IsStanding own (Lacking name) = SaysLess own (string_bytes name)

  -- there is no table of a day with a receipt; or that doesn't say so
  abbrev pub IsDueOver : Option (List ℕ) → Type 0
  IsDueOver None = Unit {0}
  IsDueOver (Some own) = SaysNotTheirs own
