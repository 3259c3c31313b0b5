use Rattle.std.proofs.Common.{◌≡◌, ◌++◌, length, map}
use Rattle.std.specs.Prelude.{string_bytes}
use Rattle.cli_inputs.specs.MapFiles.{map_paths}
use Rattle.cli_inputs.proofs.plan_maps.paths_of.Given as goal

-- the paths, and the maps that are left
abbrev pub invariant-loop-maps : goal.invariant-loop-maps
invariant-loop-maps l = map string_bytes l.paths.items ++ map_paths l.plan l.maps ≡ map_paths l.plan l.initial.maps

abbrev pub decreases-loop-maps : goal.decreases-loop-maps
decreases-loop-maps l = length l.maps
