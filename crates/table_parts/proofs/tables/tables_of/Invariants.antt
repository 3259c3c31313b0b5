use Rattle.std.proofs.Common.{◌≡◌, ◌≤◌, length, map, take}
use Rattle.receipt_merging.specs.Parts.{part_value}
use Rattle.table_parts.specs.Tables.{tables_said}
use Rattle.table_parts.proofs.tables.tables_of.Given as goal

-- those so far are there
abbrev pub invariant-loop-place : goal.invariant-loop-place
invariant-loop-place l = record {
  within : l.place ≤ length l.all;
  are : l.tables.items ≡ tables_said (take l.place l.all) (map part_value (take l.place l.parts));
}
