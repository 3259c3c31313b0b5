use Rattle.std.proofs.Common.{◌≡◌, ◌++◌, length, map, string_bytes}
use Rattle.table_receipts.specs.Values.{input_value}
use Rattle.period_tables.specs.Standing.{names_read}
use Rattle.tables_folder.proofs.receipt_files.names_of.Given as goal

-- those that are left come after those that are there
abbrev pub invariant-loop-input : goal.invariant-loop-input
invariant-loop-input l =
    map string_bytes l.names.items ++ names_read (map input_value l.left) ≡ names_read (map input_value l.inputs)

abbrev pub decreases-loop-input : goal.decreases-loop-input
decreases-loop-input l = length l.left
