use Rattle.std.proofs.Common.{◌≡◌, ◌++◌, length, map}
use Rattle.table_receipts.specs.Values.{file_value}
use Rattle.command_verify.specs.Again.{names_of}
use Rattle.command_verify.proofs.maps.names_of.Given as goal

-- the names, and those of the files that are left
abbrev pub invariant-loop-files : goal.invariant-loop-files
invariant-loop-files l = map (λ n. n.now) l.names.items ++ names_of (map file_value l.files) ≡ names_of (map file_value l.initial.files)

abbrev pub decreases-loop-files : goal.decreases-loop-files
decreases-loop-files l = length l.files
