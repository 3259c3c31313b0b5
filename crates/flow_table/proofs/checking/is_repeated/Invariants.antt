use Rattle.std.proofs.Common.{◌≡◌, length}
use Rattle.flow_table.specs.Plans.{has_twice, elements_in}
use Rattle.flow_table.proofs.checking.is_repeated.Given as goal

abbrev pub invariant-loop-keys : goal.invariant-loop-keys
invariant-loop-keys l = has_twice (elements_in l.side l.initial.keys l.counters) ≡ has_twice (elements_in l.side l.keys l.counters)

abbrev pub decreases-loop-keys : goal.decreases-loop-keys
decreases-loop-keys l = length l.keys
