use Rattle.std.proofs.Common.{◌≡◌, take}
use Rattle.recording_order.specs.Arrivals.{room_beside}
use Rattle.recording_order.proofs.lists.room_beside.Given as goal

abbrev pub invariant-loop-datagram : goal.invariant-loop-datagram
invariant-loop-datagram l = l.left ≡ room_beside l.room (take l.datagram-index l.datagrams)
