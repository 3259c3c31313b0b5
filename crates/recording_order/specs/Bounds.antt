-- How much is kept of a peer.
use Rattle.std.specs.Prelude.{ℕ, ◌+◌, ◌≤◌}
use Rattle.recording_order.specs.Arrivals.{count_in, octets_of}
use Rattle.recording_order.specs.Windows.{WindowView}
use Rattle.recording_order.specs.declared.limits.TheConstants.{MOST_LAST, MOST_WAITING, ROOM}

-- its datagrams take no more than the room, not many of a domain wait, and not many of it are among the last ones
pub record IsBounded (w : WindowView) : Type 0 where
  pub octets : octets_of w.waiting + octets_of w.last ≤ ROOM
  pub waiting : (domain : ℕ) → count_in domain w.waiting ≤ MOST_WAITING
  pub last : (domain : ℕ) → count_in domain w.last ≤ MOST_LAST
