use Rattle.std.proofs.Common.{◌≡◌, ◌++◌, length, map}
use Rattle.flow_plan_fields.specs.Keys.{map_key_value, without_text}
use Rattle.flow_plan_fields.proofs.keys.map_keys.Given as goal

-- the copies, and the keys that are left
abbrev pub invariant-loop-keys : goal.invariant-loop-keys
invariant-loop-keys l = map map_key_value l.copies.items ++ map without_text l.keys ≡ map without_text l.initial.keys

abbrev pub decreases-loop-keys : goal.decreases-loop-keys
decreases-loop-keys l = length l.keys
