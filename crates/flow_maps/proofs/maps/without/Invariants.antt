use Rattle.std.proofs.Common.{◌≡◌, ◌++◌}
use Rattle.flow_maps.specs.Numbers.{without}
use Rattle.flow_maps.proofs.maps.without.Given as goal

-- what was kept, and what will be of the fields that are left
abbrev pub invariant-loop-field : goal.invariant-loop-field
invariant-loop-field l = l.kept ++ without l.element l.field-iterator ≡ without l.element l.fields
