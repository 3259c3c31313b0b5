use Rattle.std.proofs.Common.{◌≡◌, length}
use Rattle.flow_estimates.specs.Estimates.{with_each}
use Rattle.flow_estimates.proofs.estimates.append_each.Given as goal

-- what the keys that are left append gives what all append
abbrev pub invariant-loop-keys : goal.invariant-loop-keys
invariant-loop-keys l = with_each l.keys l.fields ≡ with_each l.initial.keys l.initial.fields

abbrev pub decreases-loop-keys : goal.decreases-loop-keys
decreases-loop-keys l = length l.keys
