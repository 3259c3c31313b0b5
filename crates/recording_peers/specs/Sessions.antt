-- What the peers that are kept stand for (RFC 7011, sections 8.4 and 10.3).
use Rattle.std.specs.Prelude.{◌≡◌, ℕ, List, [], ◌∷◌, ◌++◌, Option, Some, None, unwrap_or}
use Rattle.std.specs.declared.net.socket_addr.SocketAddr.{SocketAddr}
use Rattle.lru.specs.LruCache.{last_entry}
use Rattle.recording_files.specs.Files.{FilesView}
use Rattle.recording_peers.specs.declared.peer_limits.PeerLimits.{PeerLimits}
use Rattle.recording_peers.specs.declared.peer_state.PeerState.{PeerState}
use Rattle.recording_peers.specs.declared.outcome.Became.{Became}
use Rattle.recording_peers.specs.declared.outcome.Became.TheVariants.{Taken, Ended, NoPlace, NoMemory}
use Rattle.recording_peers.specs.declared.in_turn.InTurn.{InTurn}
use Rattle.recording_peers.specs.Happenings.{Happening, DatagramCame, SecondBegan}
use Rattle.recording_peers.specs.Kept.{IsSession, HasEnded}
use Rattle.recording_peers.specs.Steps.{PeerSessions, Reception}
use Rattle.recording_peers.specs.Table.{address_of, entry_of, of_peer, others_for, with_first, without_last, Beside, Paired, Both}

-- peers, each with what happened to it since its session began, in order
abbrev pub PeerHappenings : Type 0
PeerHappenings = List (SocketAddr × List Happening)

abbrev pub happened_to : SocketAddr → PeerHappenings → List Happening
happened_to peer cs = unwrap_or (of_peer peer cs) []

-- and then this
abbrev pub happened_with : SocketAddr → PeerHappenings → Happening → List Happening
happened_with peer cs h = happened_to peer cs ++ h ∷ []

-- one more happened to a peer, which is first now, and for which this one went
abbrev pub with_happening : Option SocketAddr → PeerHappenings → SocketAddr → Happening → PeerHappenings
with_happening gone cs peer h = with_first gone peer (happened_with peer cs h) cs

-- the one that went, if one did
abbrev pub went_in : {F : Type 0} → Reception F → Option SocketAddr
went_in r = address_of r.gone

-- a datagram of it came
abbrev pub came_in : {F : Type 0} → Reception F → Happening
came_in r = DatagramCame r.octets r.second

module _ {F : Type 0} (seen : F → FilesView) (limits : PeerLimits) where
  -- the session of each peer stands for its own
  abbrev pub StandFor : PeerSessions F → PeerHappenings → Type 0
  StandFor es cs = Paired (λ k hs. IsSession seen k limits hs) es cs

  -- and so does that of one that goes out
  abbrev pub EvictedStands : Option (SocketAddr × PeerState F) → Option (SocketAddr × List Happening) → Type 0
  EvictedStands gone c = Both (Beside (λ k hs. IsSession seen k limits hs)) gone c

  -- after a datagram of a peer
  abbrev pub StandBy : Became F → Reception F → PeerSessions F → PeerHappenings → Type 0
  StandBy Taken r after cs = StandFor after (with_happening (went_in r) cs r.peer (came_in r)) × EvictedStands r.gone (entry_of (went_in r) cs)
  StandBy (Ended k) r after cs = StandFor after (others_for (went_in r) r.peer cs) × EvictedStands r.gone (entry_of (went_in r) cs)
      × HasEnded seen k limits (happened_with r.peer cs (came_in r))
  StandBy NoPlace r after cs = StandFor after cs × (r.gone ≡ None)
  StandBy NoMemory r after cs = StandFor after cs × (r.gone ≡ None)

  abbrev pub StandAfter : Reception F → PeerSessions F → PeerHappenings → Type 0
  StandAfter r after cs = StandBy r.became r after cs

  -- after the turn of the last one, as a second began
  abbrev pub StandInTurn : ℕ → Option (PeerState F) → PeerSessions F → PeerHappenings → SocketAddr × List Happening → Type 0
  StandInTurn second None after cs c = StandFor after ((c.0, c.1 ++ SecondBegan second ∷ []) ∷ without_last cs)
  StandInTurn second (Some k) after cs c = StandFor after (without_last cs) × HasEnded seen k limits (c.1 ++ SecondBegan second ∷ [])

  pub record StandAfterTurn (second : ℕ) (t : InTurn F) (after : PeerSessions F) (cs : PeerHappenings) : Type 0 where
    pub last : SocketAddr × List Happening
    pub is : last_entry cs ≡ Some last
    pub peer : t.peer ≡ last.0
    pub stand : StandInTurn second t.ended after cs last
