use Rattle.std.proofs.Common.{◌≡◌, length, map}
use Rattle.flow_plan_fields.specs.Maps.{has_name, map_value}
use Rattle.flow_plan_fields.proofs.map_tables.has_name.Given as goal

abbrev pub invariant-loop-maps : goal.invariant-loop-maps
invariant-loop-maps l = has_name l.name (map map_value l.maps) ≡ has_name l.name (map map_value l.initial.maps)

abbrev pub decreases-loop-maps : goal.decreases-loop-maps
decreases-loop-maps l = length l.maps
