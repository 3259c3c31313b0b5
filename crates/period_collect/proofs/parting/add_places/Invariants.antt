use Rattle.std.proofs.Common.{◌≡◌, ◌++◌, map, slice_index_or, take}
use Rattle.period_collect.proofs.parting.add_places.Given as goal

-- so far
abbrev pub invariant-loop-index : goal.invariant-loop-index
invariant-loop-index l = l.all.items ≡ l.initial.all.items ++ map (λ i. slice_index_or l.places i 0) (take l.index-index l.indices)
