use Rattle.std.proofs.Common.{◌≡◌, ◌++◌, ◌≤◌, vec_len, vec_capacity, vec_items}
use Rattle.rtrb.specs.Ring as ring
use Rattle.flow_link.proofs.settled.settling.drain.Given as goal

abbrev pub invariant-loop : goal.invariant-loop
invariant-loop l =
    (vec_items l.left ++ ring.known_items l.consumer ≡ ring.known_items l.initial.consumer)
    × (ring.received l.consumer ≡ ring.received l.initial.consumer ++ vec_items l.left)
    × (vec_len l.left ≡ l.counter) × (l.count ≤ vec_capacity l.left)
