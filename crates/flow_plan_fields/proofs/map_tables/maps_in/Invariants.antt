use Rattle.std.proofs.Common.{◌≡◌, [], length, map}
use Rattle.toml.specs.View.{view}
use Rattle.flow_plan_fields.specs.Maps.{map_value, maps_after}
use Rattle.flow_plan_fields.proofs.map_tables.maps_in.Given as goal

abbrev pub invariant-loop-values : goal.invariant-loop-values
invariant-loop-values l = maps_after (map map_value l.maps.items) (map view l.values) ≡ maps_after [] (map view l.initial.values)

abbrev pub decreases-loop-values : goal.decreases-loop-values
decreases-loop-values l = length l.values
