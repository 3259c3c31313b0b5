use Rattle.std.proofs.Common.{◌≡◌, length}
use Rattle.element_registry.specs.Files.{fault_line, with_rows}
use Rattle.element_registry.proofs.reading.with_all.Given as goal

-- what is known after the rows that are left, and the line of their first fault, are those of all
abbrev pub invariant-loop-rows : goal.invariant-loop-rows
invariant-loop-rows l = record {
  known : with_rows l.columns l.elements l.rows ≡ with_rows l.columns l.initial.elements l.initial.rows;
  line : fault_line l.text l.columns l.elements l.rows ≡ fault_line l.text l.columns l.initial.elements l.initial.rows;
}

abbrev pub decreases-loop-rows : goal.decreases-loop-rows
decreases-loop-rows l = length l.rows
