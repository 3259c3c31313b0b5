use Rattle.std.proofs.Common.{◌≡◌}
use Rattle.rtrb.specs.Ring as ring
use Rattle.flow_link.proofs.sender.Sender.send.Given as goal

abbrev pub invariant-loop : goal.invariant-loop
invariant-loop g l =
    ring.ProducerLooked l.initial.self-inside.producer l.self-inside.producer
    × (l.self-inside.ended ≡ l.initial.self-inside.ended) × (l.parcel ≡ l.initial.parcel)
