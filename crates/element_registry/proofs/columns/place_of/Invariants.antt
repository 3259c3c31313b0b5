use Rattle.std.proofs.Common.{◌≡◌, ◌-◌, drop}
use Rattle.csv.specs.Records.{field_count, fields_of}
use Rattle.element_registry.specs.Rows.{place_from, place_in}
use Rattle.element_registry.proofs.columns.place_of.Given as goal

abbrev pub invariant-loop-field : goal.invariant-loop-field
invariant-loop-field l = place_from l.text l.place (drop l.place (fields_of l.row)) ≡ place_in l.text (fields_of l.row)

abbrev pub decreases-loop-field : goal.decreases-loop-field
decreases-loop-field l = field_count l.row - l.place
