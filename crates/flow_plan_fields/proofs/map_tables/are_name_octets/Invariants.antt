use Rattle.std.proofs.Common.{◌≡◌, length}
use Rattle.std.specs.List.{list_all}
use Rattle.element_registry.specs.Rows.{is_name_octet}
use Rattle.flow_plan_fields.proofs.map_tables.are_name_octets.Given as goal

abbrev pub invariant-loop-text : goal.invariant-loop-text
invariant-loop-text l = list_all is_name_octet l.text ≡ list_all is_name_octet l.initial.text

abbrev pub decreases-loop-text : goal.decreases-loop-text
decreases-loop-text l = length l.text
