-- The files that a receipt names.
use Rattle.std.specs.Prelude.{◌≡◌, ◌≢◌, ℕ, Bool, true, false, List, bytes_eq, length, map, Option, None, Some, string_bytes, ◌==◌, ◌&&◌}
use Rattle.std.specs.declared.alloc.Global.{Global}
use Rattle.std.specs.declared.io.ErrorKind.{ErrorKind}
use Rattle.std.specs.declared.io.ErrorKind.TheVariants as kind
use Rattle.std.specs.declared.string.String.{String}
use Rattle.std.specs.declared.vec.Vec.{Vec}
use Rattle.table_receipts.specs.Texts.{receipt_text}
use Rattle.period_tables.specs.Standing.{names_in}
use Rattle.report_writing.specs.Reasons.{reason_of}
use Rattle.report_writing.specs.declared.reason.Reason.{Reason}
use Rattle.report_writing.specs.declared.reason.Reason.TheVariants.{NotValid, OutOfMemory}
use Rattle.sha2.specs.Sha256.{sha256}
use Rattle.table_receipts.specs.Values.{FitsReceipt, ReceiptValue, TableValue}

-- the text is that of a receipt, of a table under a plan of this text, and these are the paths of its inputs that were read, and of those that were left out
pub record IsFilesOf (text plan : List ℕ) (paths : List (String Global)) : Type 0 where
  pub receipt : ReceiptValue
  pub text_is : receipt_text receipt ≡ text
  pub plan_is : receipt.plan ≡ plan
  pub names : map string_bytes paths ≡ names_in receipt

-- memory ran out; or the text is that of no receipt of such a table
abbrev pub IsNotOf : List ℕ → List ℕ → Reason → Type 0
IsNotOf text plan OutOfMemory = Unit {0}
IsNotOf text plan NotValid = (r : ReceiptValue) → FitsReceipt r → receipt_text r ≡ text → r.plan ≢ plan
IsNotOf text plan reason = ⊥

-- if there is a text, these are its paths
abbrev pub AreFilesIn : Option (String Global) → List ℕ → Option (Vec (String Global) Global) → Type 0
AreFilesIn None plan None = Unit {0}
AreFilesIn (Some text) plan (Some paths) = IsFilesOf (string_bytes text) plan paths.items
AreFilesIn text plan paths = ⊥

-- or they can't be had for this reason
abbrev pub AreNotIn : Option (String Global) → List ℕ → Reason → Type 0
AreNotIn None plan reason = ⊥
AreNotIn (Some text) plan reason = IsNotOf (string_bytes text) plan reason

-- why a receipt isn't read, by the kind of the system's error: one that is no text isn't valid
abbrev pub unread_reason : ErrorKind → Reason
unread_reason kind.InvalidData = NotValid
unread_reason other = reason_of other

-- a receipt says the octets and the SHA-256 of a table
abbrev pub tells_table : TableValue → List ℕ → Bool
tells_table said table = (length table == said.octets) && bytes_eq (sha256 table) said.digest

-- the text is that of a receipt that does
pub record IsReceiptOf (text table : List ℕ) : Type 0 where
  pub receipt : ReceiptValue
  pub text_is : receipt_text receipt ≡ text
  pub tells : tells_table receipt.table table ≡ true

-- no text of a receipt that does
abbrev pub IsNoReceiptOf : List ℕ → List ℕ → Type 0
IsNoReceiptOf text table = (r : ReceiptValue) → FitsReceipt r → receipt_text r ≡ text → tells_table r.table table ≡ false
