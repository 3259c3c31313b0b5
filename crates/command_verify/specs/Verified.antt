-- How a table was compared with its receipt.
use Rattle.std.specs.Str.{IsUtf8}
use Rattle.std.specs.Prelude.{◌≡◌, ◌≢◌, ◌⊎◌, ℕ, List, [], ◌∷◌, ◌++◌, codes, decimal, length}
use Rattle.report_writing.specs.FaultLines.{fault_text}
use Rattle.report_writing.specs.OpeningLines.{not_had_lines}
use Rattle.report_writing.specs.declared.reason.Reason.{Reason}
use Rattle.report_writing.specs.declared.status.Status.{Status}
use Rattle.report_writing.specs.declared.status.Status.TheVariants.{Well, SessionFault, NotOpened, Failed}
use Rattle.table_receipts.specs.Objects.{interval_name}
use Rattle.table_receipts.specs.Texts.{receipt_text}
use Rattle.table_receipts.specs.Values.{FitsReceipt, ReceiptValue}
use Rattle.table_receipts.specs.declared.fault.ReceiptFault.{ReceiptFault}
use Rattle.table_receipts.specs.declared.fault.ReceiptFault.TheVariants.{OutOfMemory, NotAReceipt}
use Rattle.table_receipts.specs.declared.receipt.MergedInterval.{MergedInterval}
use Rattle.command_verify.specs.declared.verify.VerifyJob.{VerifyJob}

-- nothing differs
unfoldable pub verified_line : ℕ → ℕ → List ℕ
verified_line inputs rows = codes "collectd: verified: inputs " ++ (decimal inputs ++ (codes " rows " ++ (decimal rows ++ codes "\n")))

-- rows that were merged into days or months aren't made again
abbrev pub merged_into_line : List ℕ → List ℕ
merged_into_line name = codes "collectd: verify: made by merge --into " ++ (name ++ codes ", so it can't be made again: verify its parts\n")

abbrev pub merged_line : MergedInterval → List ℕ
merged_line interval = merged_into_line (interval_name interval)

abbrev pub memory_line : List ℕ
memory_line = codes "collectd: " ++ (codes "verify" ++ fault_text 1 (codes "OutOfMemory"))

-- why a text isn't read as a receipt
abbrev pub fault_line : ReceiptFault → List ℕ
fault_line OutOfMemory = memory_line
fault_line NotAReceipt = codes "collectd: " ++ (codes "verify" ++ fault_text 2 (codes "NotAReceipt"))

-- want of memory is no fault of the text
abbrev pub fault_status : ReceiptFault → Status
fault_status OutOfMemory = Failed
fault_status NotAReceipt = NotOpened

-- of texts in UTF-8 only one that no receipt has isn't one
abbrev pub IsFaultOf : List ℕ → ReceiptFault → Type 0
IsFaultOf text OutOfMemory = Unit {0}
IsFaultOf text NotAReceipt = IsUtf8 text → (r : ReceiptValue) → FitsReceipt r → receipt_text r ≡ text → ⊥

-- what differs was told; or, if nothing does, that
abbrev pub TellsDifferences : ReceiptValue → List ℕ → Status → (List ℕ → Type 0) → Type 0
TellsDifferences r lines status AreTold =
    ((lines ≡ []) × (status ≡ Well) × AreTold (verified_line (length r.inputs) r.table.rows))
    ⊎ ((lines ≢ []) × (status ≡ SessionFault) × AreTold lines)

module _ (Has : List ℕ → List ℕ → Type 0) (Refuses : List ℕ → Reason → Type 0) (job : VerifyJob) (status : Status) (AreTold : List ℕ → Type 0) where
  -- a path has no text
  pub record LacksText (path : List ℕ) : Type 0 where
    pub reason : Reason
    pub refused : Refuses path reason
    pub told : AreTold (not_had_lines job.verbosity (codes "open") path reason)
    pub not_opened : status ≡ NotOpened

  -- a text isn't that of a receipt, or memory ran out
  pub record LacksReceipt : Type 0 where
    pub text : List ℕ
    pub has : Has job.receipt.now text
    pub fault : ReceiptFault
    pub is_fault : IsFaultOf text fault
    pub told : AreTold (fault_line fault)
    pub status_is : status ≡ fault_status fault

  -- the receipt was read, and the table has no text
  pub record LacksTable : Type 0 where
    pub receipt : ReceiptValue
    pub has : Has job.receipt.now (receipt_text receipt)
    pub lacks : LacksText job.table.now

  -- the receipt was read, and then the table; which were compared so
  pub record ReadsBoth (Compares : ReceiptValue → List ℕ → Type 0) : Type 0 where
    pub receipt : ReceiptValue
    pub has : Has job.receipt.now (receipt_text receipt)
    pub table : List ℕ
    pub has_table : Has job.table.now table
    pub compares : Compares receipt table

  -- the status says how it ended
  abbrev pub Verifies : (ReceiptValue → List ℕ → Type 0) → Type 0
  Verifies Compares = LacksText job.receipt.now ⊎ LacksReceipt ⊎ LacksTable ⊎ ReadsBoth Compares
