use Rattle.std.proofs.Common.{◌≡◌, length, map}
use Rattle.table_receipts.specs.Values.{file_value}
use Rattle.receipt_differences.specs.Remade.{files_same}
use Rattle.receipt_differences.proofs.remade.are_same_files.Given as goal

-- what is left is the same exactly if all are
abbrev pub invariant-loop-file : goal.invariant-loop-file
invariant-loop-file l = files_same (map file_value l.left) (map file_value l.rest) ≡ files_same (map file_value l.initial.left) (map file_value l.initial.rest)

abbrev pub decreases-loop-file : goal.decreases-loop-file
decreases-loop-file l = length l.left
