use Rattle.std.proofs.Common.{◌≡◌, ◌++◌, length, map}
use Rattle.table_receipts.specs.Values.{file_value}
use Rattle.receipt_maps.specs.MapsTold.{files_told}
use Rattle.receipt_maps.proofs.maps.files_of.Given as goal

-- what is said of the files, and what is left to say
abbrev pub invariant-loop-paths : goal.invariant-loop-paths
invariant-loop-paths l = map file_value l.files.items ++ files_told (map (λ p. p.now) l.paths) l.loaded ≡ files_told (map (λ p. p.now) l.initial.paths) l.initial.loaded

abbrev pub decreases-loop-paths : goal.decreases-loop-paths
decreases-loop-paths l = length l.paths
