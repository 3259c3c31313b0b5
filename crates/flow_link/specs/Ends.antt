-- What contracts see of a link's two ends.
use Rattle.std.specs.Prelude.{◌≡◌, ℕ, List, []}
use denote.RawPtr.{Ptr}
use Rattle.rtrb.specs.Shared.{Names}
use Rattle.flow_link.specs.declared.parcel.Parcel.{Parcel}

-- what distinguishes one link from another
abbrev pub LinkName : Type 0
LinkName = Ptr × Ptr × Names

-- the end that sends: its link, how many parcels that has room for, and all parcels sent so far, the oldest first
pub record SenderView : Type 0 where
  pub link : LinkName
  pub capacity : ℕ
  pub sent : List Parcel

-- the end that receives: its link, how many parcels that has room for, and all parcels taken so far, the oldest first
pub record ReceiverView : Type 0 where
  pub link : LinkName
  pub capacity : ℕ
  pub received : List Parcel

-- the two ends of one link
abbrev pub IsPair : SenderView → ReceiverView → Type 0
IsPair s r = s.link ≡ r.link

-- the two ends of a link of this capacity over which nothing went
pub record IsNewLink (capacity : ℕ) (s : SenderView) (r : ReceiverView) : Type 0 where
  pub pair : IsPair s r
  pub sender_capacity : s.capacity ≡ capacity
  pub receiver_capacity : r.capacity ≡ capacity
  pub nothing_sent : s.sent ≡ []
  pub nothing_received : r.received ≡ []
