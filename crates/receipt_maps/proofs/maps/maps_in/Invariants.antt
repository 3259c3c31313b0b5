use Rattle.std.proofs.Common.{◌≡◌, ◌++◌, map}
use Rattle.std.specs.VecDeque.{deque_len}
use Rattle.input_sources.specs.declared.maps.LoadedMap.{LoadedMap}
use Rattle.receipt_maps.proofs.maps.maps_in.Given as goal

-- the maps, and those that wait
abbrev pub invariant-loop-next : goal.invariant-loop-next
invariant-loop-next l = l.maps.items ++ map (λ (m : LoadedMap). m.map) l.waiting.items ≡ map (λ (m : LoadedMap). m.map) l.initial.waiting.items

abbrev pub decreases-loop-next : goal.decreases-loop-next
decreases-loop-next l = deque_len l.waiting
