-- Both ends of a link in one thread again.
use Rattle.std.specs.Prelude.{◌≡◌, ℕ, ◌-◌, List, [], ◌++◌, true, length, take}
use Rattle.flow_link.specs.declared.parcel.Parcel.{Parcel}
use Rattle.flow_link.specs.declared.settled.Settled.{Settled}
use Rattle.flow_link.specs.declared.settled.SettleFault.{SettleFault}
use Rattle.flow_link.specs.declared.settled.SettleFault.TheVariants.{OutOfMemory}
use Rattle.flow_link.specs.Ends.{LinkName, SenderView, ReceiverView}
use Rattle.flow_link.specs.Parcels.{has_last, LastEnds}

abbrev pub settled_link : Settled → LinkName
settled_link t = t.sender.link

abbrev pub settled_capacity : Settled → ℕ
settled_capacity t = t.sender.capacity

-- all that was sent over the link
abbrev pub settled_sent : Settled → List Parcel
settled_sent t = t.sender.sent

-- what its receiver took before it was settled: all that it took but what `settle` took itself
abbrev pub settled_received : Settled → List Parcel
settled_received t = take (length t.receiver.received - t.drained) t.receiver.received

-- what was taken and then what was left is what was sent, and if Last was taken all was
pub record Settles (s : SenderView) (r : ReceiverView) (t : Settled) : Type 0 where
  pub link_is : settled_link t ≡ s.link
  pub capacity_is : settled_capacity t ≡ s.capacity
  pub sent_is : settled_sent t ≡ s.sent
  pub received_is : settled_received t ≡ r.received
  pub whole : r.received ++ t.left.items ≡ s.sent
  pub last_ends : LastEnds s.sent
  pub gave_all : has_last r.received ≡ true → t.left.items ≡ []

-- both ends are as they were given
abbrev pub HandsBack : SenderView → ReceiverView → SettleFault → Type 0
HandsBack s r (OutOfMemory s' r') = (s' ≡ s) × (r' ≡ r)
