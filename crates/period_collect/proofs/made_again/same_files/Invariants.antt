use Rattle.std.proofs.Common.{◌≡◌, ◌++◌, length, map}
use Rattle.table_receipts.specs.Values.{file_value}
use Rattle.period_collect.proofs.made_again.same_files.Given as goal

-- those that are left come after those that are there
abbrev pub invariant-loop-file : goal.invariant-loop-file
invariant-loop-file l = map file_value l.same.items ++ map file_value l.left ≡ map file_value l.files

abbrev pub decreases-loop-file : goal.decreases-loop-file
decreases-loop-file l = length l.left
