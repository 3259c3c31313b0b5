-- What the receipts of a table and of its text say.
use Rattle.std.specs.Prelude.{◌≡◌, ◌≢◌, ◌⊎◌, List, ℕ}
use Rattle.table_parts.specs.Parts.{IsNoReceipt}
use Rattle.table_receipts.specs.Texts.{receipt_text}
use Rattle.table_receipts.specs.Values.{FitsReceipt, ReceiptValue, TableValue}
use Rattle.report_writing.specs.declared.reason.Reason.{Reason}
use Rattle.report_writing.specs.declared.reason.Reason.TheVariants.{NotValid, OutOfMemory}

-- a receipt with another table, and who made that: of the same plan and its files, of the same inputs, records of each class and completeness
abbrev pub with_table : List ℕ → TableValue → ReceiptValue → ReceiptValue
with_table collectd table receipt = record receipt { collectd = collectd; table = table }

-- these are the texts of two receipts that say the same but for that
pub record SaysTheSame (one other : List ℕ) : Type 0 where
  pub receipt : ReceiptValue
  pub collectd : List ℕ
  pub table : TableValue
  pub one_is : receipt_text receipt ≡ one
  pub other_is : receipt_text (with_table collectd table receipt) ≡ other

-- they aren't
abbrev pub SaysOther : List ℕ → List ℕ → Type 0
SaysOther one other = (receipt : ReceiptValue) (collectd : List ℕ) (table : TableValue)
    → FitsReceipt receipt → FitsReceipt (with_table collectd table receipt)
    → receipt_text receipt ≡ one → receipt_text (with_table collectd table receipt) ≢ other

-- memory ran out; or a text is no receipt's
abbrev pub IsNoReceiptFor : List ℕ → Reason → Type 0
IsNoReceiptFor text OutOfMemory = Unit {0}
IsNoReceiptFor text NotValid = IsNoReceipt text
IsNoReceiptFor text reason = ⊥

abbrev pub IsNotCompared : List ℕ → List ℕ → Reason → Type 0
IsNotCompared one other reason = IsNoReceiptFor one reason ⊎ IsNoReceiptFor other reason
