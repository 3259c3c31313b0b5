use Rattle.std.proofs.Common.{List}
use Rattle.std.specs.Prelude.{map}
use Rattle.table_receipts.specs.declared.receipt.FileReceipt.{FileReceipt}
use Rattle.table_receipts.specs.Objects.{file_json}
use Rattle.table_receipts.specs.Values.{file_value}
use Rattle.table_receipts.proofs.Listing.{Writing}
use Rattle.table_receipts.proofs.parts.write_files.Given as goal

abbrev pub invariant-loop-file : goal.invariant-loop-file
invariant-loop-file l = Writing (λ (xs : List FileReceipt). map file_json (map file_value xs)) l.files l.file-index l.initial.writer l.writer
