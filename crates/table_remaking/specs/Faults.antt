-- Why a table wasn't compared with the one that is made again.
use Rattle.std.specs.Prelude.{List}
use Rattle.ipfix_session.specs.Sources.{SourceView}
use Rattle.report_writing.specs.declared.origin.Origin.{Origin}
use Rattle.table_receipts.specs.Values.{ReceiptValue}
use Rattle.table_remaking.specs.Again.{IsNotMade}
use Rattle.table_remaking.specs.declared.again.AgainFault.{AgainFault}
use Rattle.table_remaking.specs.declared.again.MadeBy.{MadeBy}
use Rattle.table_remaking.specs.declared.again.AgainFault.TheVariants.{NotMade, OutOfMemory}

-- want of memory comes at any time
abbrev pub IsDue : {S : Type 0} → (S → SourceView) → MadeBy → ReceiptValue → List S → List Origin → AgainFault → Type 0
IsDue seen by said sources origins (NotMade fault) = IsNotMade seen by said sources origins fault
IsDue seen by said sources origins OutOfMemory = Unit {0}
