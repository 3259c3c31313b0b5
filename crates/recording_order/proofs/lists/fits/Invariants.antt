use Rattle.std.proofs.Common.{◌≡◌, ◌+◌, take}
use Rattle.recording_order.specs.Arrivals.{octets_of}
use Rattle.recording_order.proofs.lists.fits.Given as goal

abbrev pub invariant-loop-datagram : goal.invariant-loop-datagram
invariant-loop-datagram l = l.left + octets_of (take l.datagram-index l.datagrams) ≡ l.room
