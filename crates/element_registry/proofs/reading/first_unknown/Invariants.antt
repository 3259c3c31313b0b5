use Rattle.std.proofs.Common.{◌≡◌, length}
use Rattle.element_registry.specs.Files.{unknown_line}
use Rattle.element_registry.proofs.reading.first_unknown.Given as goal

abbrev pub invariant-loop-rows : goal.invariant-loop-rows
invariant-loop-rows l = unknown_line l.text l.columns l.rows ≡ unknown_line l.text l.columns l.initial.rows

abbrev pub decreases-loop-rows : goal.decreases-loop-rows
decreases-loop-rows l = length l.rows
