-- Datagrams of many peers, one after another (RFC 7011, section 10.3).
use Rattle.std.specs.Prelude.{◌≡◌, ℕ, true, List, [], ◌∷◌, map, filter, IsSome}
use Rattle.std.specs.declared.net.socket_addr.SocketAddr.{SocketAddr}
use Rattle.recording_files.specs.Files.{FilesView}
use Rattle.recording_peers.specs.declared.outcome.Became.{Became}
use Rattle.recording_peers.specs.declared.outcome.Became.TheVariants.{Taken, Ended, NoPlace, NoMemory}
use Rattle.recording_peers.specs.declared.peer_limits.PeerLimits.{PeerLimits}
use Rattle.recording_peers.specs.Happenings.{Happening}
use Rattle.recording_peers.specs.Table.{same_peer, of_peer, others_for}
use Rattle.recording_peers.specs.Steps.{PeerSessions, Reception, Records}
use Rattle.recording_peers.specs.Sessions.{PeerHappenings, came_in, went_in, with_happening}

-- they were recorded one after another
abbrev pub AreRecorded : {F : Type 0} → (F → FilesView) → (F → SocketAddr → Type 0) → PeerLimits → ℕ → List (Reception F) → PeerSessions F → PeerSessions F → Type 0
AreRecorded seen made_for limits most [] es after = after ≡ es
AreRecorded {F} seen made_for limits most (r ∷ rs) es after =
    (between : PeerSessions F) × Records seen made_for limits most r es between × AreRecorded seen made_for limits most rs between after

-- the peers that are kept then, each with what happened to it since its session began
abbrev pub happened_by : {F : Type 0} → Became F → Reception F → PeerHappenings → PeerHappenings
happened_by Taken r cs = with_happening (went_in r) cs r.peer (came_in r)
happened_by (Ended k) r cs = others_for (went_in r) r.peer cs
happened_by NoPlace r cs = cs
happened_by NoMemory r cs = cs

abbrev pub happened_in : {F : Type 0} → Reception F → PeerHappenings → PeerHappenings
happened_in r cs = happened_by r.became r cs

abbrev pub happened_after : {F : Type 0} → List (Reception F) → PeerHappenings → PeerHappenings
happened_after [] cs = cs
happened_after (r ∷ rs) cs = happened_after rs (happened_in r cs)

-- ---- a peer among them

-- its own datagrams
abbrev pub own_of : {F : Type 0} → SocketAddr → List (Reception F) → List Happening
own_of peer rs = map (λ r. came_in r) (filter (λ r. same_peer peer r.peer) rs)

-- its session took it
abbrev pub IsTaken : {F : Type 0} → Became F → Type 0
IsTaken Taken = Unit {0}
IsTaken (Ended k) = ⊥
IsTaken NoPlace = ⊥
IsTaken NoMemory = ⊥

-- its own were taken, and its session didn't go out
abbrev pub IsNeverEvicted : {F : Type 0} → SocketAddr → List (Reception F) → PeerHappenings → Type 0
IsNeverEvicted peer [] cs = Unit {0}
IsNeverEvicted peer (r ∷ rs) cs =
    (same_peer peer r.peer ≡ true → IsTaken r.became)
    × (IsSome (of_peer peer cs) → IsSome (of_peer peer (happened_in r cs)))
    × IsNeverEvicted peer rs (happened_in r cs)
