-- What becomes of a datagram, and of the peers that are kept.
use Rattle.std.specs.Prelude.{◌≡◌, ◌≤◌, ◌⊎◌, ℕ, Bool, not, nat_lt, if◌then◌else◌, is_some, IfSome, List, length, [], ◌∷◌, Option, Some, None, Result, Ok, Err}
use Rattle.std.specs.Option.{option_or}
use Rattle.std.specs.BTreeMap.{BTreeMap}
use Rattle.std.specs.declared.net.socket_addr.SocketAddr.{SocketAddr}
use Rattle.lru.specs.LruCache.{last_entry, lru_cache}
use Rattle.recording_files.specs.declared.record_fault.RecordFault.{RecordFault}
use Rattle.recording_files.specs.Files.{FilesView}
use Rattle.recording_resumption.specs.declared.earlier_domain.EarlierDomain.{EarlierDomain}
use Rattle.recording_peer.specs.Beginnings.{BeginsPeer, WhyNone, resumed_first}
use Rattle.recording_peer.specs.Places.{has_template, has_record}
use Rattle.recording_peer.specs.Recording.{left_listed}
use Rattle.recording_peers.specs.declared.peer_state.PeerState.{PeerState}
use Rattle.recording_peers.specs.declared.outcome.Outcome.{Outcome}
use Rattle.recording_peers.specs.declared.outcome.Became.{Became}
use Rattle.recording_peers.specs.declared.outcome.Became.TheVariants.{Taken, Ended, NoPlace, NoMemory}
use Rattle.recording_peers.specs.declared.peers.Peers.{Peers}
use Rattle.recording_peers.specs.declared.peer_limits.PeerLimits.{PeerLimits}
use Rattle.recording_peers.specs.declared.in_turn.InTurn.{InTurn}
use Rattle.recording_peers.specs.declared.turn.Turn.{Turn}
use Rattle.recording_peers.specs.Kept.{IsSession}
use Rattle.recording_peers.specs.Calls.{Takes, TakesTurn}
use Rattle.recording_peers.specs.Table.{address_of, entry_of, last_of, of_peer, others_for, with_first, without_last}

-- peers that are kept, each with its session, in the order of their last datagrams, the latest first
abbrev pub PeerSessions : Type 0 → Type 0
PeerSessions F = List (SocketAddr × PeerState F)

-- ---- a datagram

-- a datagram of a peer that came at a second, what became of it, and the peer that went for it
pub record Reception (F : Type 0) : Type 0 where
  pub peer : SocketAddr
  pub octets : List ℕ
  pub second : ℕ
  pub became : Became F
  pub gone : Option (SocketAddr × PeerState F)

-- with the outcome that was answered
abbrev pub reception : {F : Type 0} → SocketAddr → List ℕ → ℕ → Outcome F → Reception F
reception peer m second o = record { peer = peer; octets = m; second = second; became = o.became; gone = o.gone }

-- what became of it, by the answer of its peer's session
abbrev pub became_by : {F : Type 0} → Result (Unit {0}) RecordFault → PeerState F → Became F
became_by (Ok x) k = Taken
became_by (Err fault) k = Ended k

-- the peer is first, with its session; one that ended is kept no more
abbrev pub kept_by : {F : Type 0} → Result (Unit {0}) RecordFault → Option SocketAddr → SocketAddr → PeerState F → PeerSessions F → PeerSessions F
kept_by (Ok x) gone peer k es = with_first gone peer k es
kept_by (Err fault) gone peer k es = others_for gone peer es

-- ---- who goes for a new peer

-- first who has no template in force, then who had no record read, and then any: of these the one that was silent for longest
abbrev pub goes_first : {F : Type 0} → PeerSessions F → Option (SocketAddr × PeerState F)
goes_first es = option_or (last_of (λ k. not (has_template k.recorder)) es) (option_or (last_of (λ k. not (has_record k.recorder)) es) (last_entry es))

-- where there is no room for one more
abbrev pub gone_for : {F : Type 0} → ℕ → PeerSessions F → Option (SocketAddr × PeerState F)
gone_for most es = if nat_lt (length es) most then None else goes_first es

-- for a peer that isn't kept
abbrev pub gone_beside : {F : Type 0} → ℕ → SocketAddr → PeerSessions F → Option (SocketAddr × PeerState F)
gone_beside most peer es = if is_some (of_peer peer es) then None else gone_for most es

-- a new peer is first then, with this session, and this one went for it
pub record PutsIn {F : Type 0} (most : ℕ) (peer : SocketAddr) (k : PeerState F) (gone : Option (SocketAddr × PeerState F)) (es after : PeerSessions F) : Type 0 where
  pub went : gone ≡ gone_for most es
  pub was_kept : gone ≡ entry_of (address_of gone) es
  pub others : after ≡ with_first (address_of gone) peer k es

-- ---- what is done with a datagram

-- no session of the peer begins, and nothing has changed
pub record TakesNothing {F : Type 0} (r : Reception F) (es after : PeerSessions F) : Type 0 where
  pub begins : of_peer r.peer es ≡ None
  pub same : after ≡ es
  pub none_went : r.gone ≡ None

-- since the datagram doesn't begin one, by what an earlier run left of the peer; or since there is no room for one more, and none
-- is made now
abbrev pub WhyNoPlace : {F : Type 0} → ℕ → ℕ → Reception F → PeerSessions F → Type 0
WhyNoPlace budget most r es = ((left : BTreeMap ℕ EarlierDomain) × WhyNone budget (resumed_first left r.octets) r.octets) ⊎ (most ≤ length es)

pub record FindsNoPlace {F : Type 0} (budget most : ℕ) (r : Reception F) (es after : PeerSessions F) : Type 0 where
  pub nothing : TakesNothing r es after
  pub why : WhyNoPlace budget most r es

-- a datagram begins a session with these limits, by what an earlier run left of its peer
abbrev pub DatagramBegins : PeerLimits → BTreeMap ℕ EarlierDomain → List ℕ → Type 0
DatagramBegins limits left m = BeginsPeer limits.templates (resumed_first left m) m

-- none are kept, and there is room for so many
abbrev pub KeepsNone : {F : Type 0} → ℕ → Peers F → Type 0
KeepsNone most peers = peers.kept ≡ lru_cache [] most

-- the room for peers, and the limits of their sessions, stay
pub record KeepsLimits {F : Type 0} (old new : Peers F) : Type 0 where
  pub room : new.kept.cap ≡ old.kept.cap
  pub limits : new.limits ≡ old.limits

-- the session of a peer that is kept took it; no other has changed
pub record TakesKept {F : Type 0} (seen : F → FilesView) (r : Reception F) (es after : PeerSessions F) : Type 0 where
  pub old : PeerState F
  pub kept : of_peer r.peer es ≡ Some old
  pub new : PeerState F
  pub answer : Result (Unit {0}) RecordFault
  pub takes : Takes seen old new r.octets r.second answer
  pub became : r.became ≡ became_by answer new
  pub others : after ≡ kept_by answer None r.peer new es

module _ {F : Type 0} (seen : F → FilesView) (made_for : F → SocketAddr → Type 0) (limits : PeerLimits) where
  -- a session that begins, with files that were made for its peer, and with what an earlier run left of the peer
  pub record Begins (peer : SocketAddr) (left : BTreeMap ℕ EarlierDomain) (k : PeerState F) : Type 0 where
    pub session : IsSession seen k limits []
    pub made : made_for k.files peer
    pub earlier : k.recorder.earlier ≡ left_listed left.entries
    pub none_told : (k.refused ≡ None) × (k.resumptions_told ≡ 0)

  -- since this datagram begins one
  pub record BeginsBy (peer : SocketAddr) (m : List ℕ) (k : PeerState F) : Type 0 where
    pub left : BTreeMap ℕ EarlierDomain
    pub begins : Begins peer left k
    pub by : DatagramBegins limits left m

  -- a peer that isn't kept is first then, with a session that begins, and this one went for it; or there is no memory
  abbrev pub BeginsWith : {E : Type 0} → ℕ → SocketAddr → BTreeMap ℕ EarlierDomain → Result (Option (SocketAddr × PeerState F)) E → PeerSessions F → PeerSessions F → Type 0
  BeginsWith most peer left (Ok gone) es after = (k : PeerState F) × Begins peer left k × PutsIn most peer k gone es after
  BeginsWith most peer left (Err e) es after = after ≡ es

  -- the session that a datagram comes to: the peer's, or one that begins
  abbrev pub ComesTo : SocketAddr → List ℕ → Option (PeerState F) → PeerState F → Type 0
  ComesTo peer m (Some was) k = k ≡ was
  ComesTo peer m None k = BeginsBy peer m k

  -- its peer's session took it; no other has changed
  pub record TakesIn (most : ℕ) (r : Reception F) (es after : PeerSessions F) : Type 0 where
    pub old : PeerState F
    pub comes_to : ComesTo r.peer r.octets (of_peer r.peer es) old
    pub new : PeerState F
    pub answer : Result (Unit {0}) RecordFault
    pub takes : Takes seen old new r.octets r.second answer
    pub became : r.became ≡ became_by answer new
    -- the one that goes for it is taken out, and answered
    pub went : r.gone ≡ gone_beside most r.peer es
    pub was_kept : r.gone ≡ entry_of (address_of r.gone) es
    pub others : after ≡ kept_by answer (address_of r.gone) r.peer new es

  abbrev pub RecordsBy : Became F → ℕ → Reception F → PeerSessions F → PeerSessions F → Type 0
  RecordsBy NoPlace most r es after = FindsNoPlace limits.templates most r es after
  RecordsBy NoMemory most r es after = TakesNothing r es after
  RecordsBy Taken most r es after = TakesIn most r es after
  RecordsBy (Ended k) most r es after = TakesIn most r es after

  abbrev pub Records : ℕ → Reception F → PeerSessions F → PeerSessions F → Type 0
  Records most r es after = RecordsBy r.became most r es after

-- ---- peers in turn

-- a session that ended goes out, and else it is first
abbrev pub ended_by : {F : Type 0} → Result (Unit {0}) RecordFault → PeerState F → Option (PeerState F)
ended_by (Ok x) k = None
ended_by (Err fault) k = Some k

abbrev pub first_by : {F : Type 0} → Result (Unit {0}) RecordFault → SocketAddr → PeerState F → PeerSessions F → PeerSessions F
first_by (Ok x) peer k es = (peer, k) ∷ es
first_by (Err fault) peer k es = es

-- the last peer had its turn as a second began; no other has changed
pub record GoesOn {F : Type 0} (seen : F → FilesView) (second : ℕ) (is_over : Bool) (es after : PeerSessions F) (t : InTurn F) : Type 0 where
  pub old : PeerState F
  pub last : last_entry es ≡ Some (t.peer, old)
  pub new : PeerState F
  pub turn : Turn
  pub takes : TakesTurn seen old new second is_over turn
  pub refused : t.refused ≡ turn.refused
  pub orders : t.orders ≡ turn.orders
  pub resumed : t.resumed ≡ turn.resumed
  pub ended : t.ended ≡ ended_by turn.answer new
  pub others : after ≡ first_by turn.answer t.peer new (without_last es)

-- of the last one, which was silent for longest, a datagram came since then
abbrev pub LastIsHeard : {F : Type 0} → ℕ → PeerSessions F → Type 0
LastIsHeard since es = IfSome (last_entry es) (λ e. since ≤ e.1.heard)

-- ---- what the calls do with the peers that are kept

module _ {F : Type 0} (seen : F → FilesView) where
  -- a datagram of one of them, which came at a second, was taken, and this became of it
  abbrev pub PeersTake : SocketAddr → List ℕ → ℕ → Peers F → Peers F → Became F → Type 0
  PeersTake peer m second old new became = TakesKept seen (reception peer m second (record { became = became; gone = None })) old.kept.entries new.kept.entries

  abbrev pub PeersGoOn : ℕ → Bool → Peers F → Peers F → InTurn F → Type 0
  PeersGoOn second is_over old new t = GoesOn seen second is_over old.kept.entries new.kept.entries t

-- one that isn't kept was put in, with this session, and this one went for it
abbrev pub PeersPutIn : {F : Type 0} → SocketAddr → PeerState F → Peers F → Peers F → Option (SocketAddr × PeerState F) → Type 0
PeersPutIn peer k old new gone = PutsIn old.kept.cap peer k gone old.kept.entries new.kept.entries

module _ {F : Type 0} (seen : F → FilesView) (made_for : F → SocketAddr → Type 0) where
  abbrev pub PeersBegin : {E : Type 0} → SocketAddr → BTreeMap ℕ EarlierDomain → Result (Option (SocketAddr × PeerState F)) E → Peers F → Peers F → Type 0
  PeersBegin peer left answer old new = BeginsWith seen made_for old.limits old.kept.cap peer left answer old.kept.entries new.kept.entries

  -- a datagram of any peer, which came at a second, was recorded, with this outcome
  abbrev pub PeersRecord : SocketAddr → List ℕ → ℕ → Outcome F → Peers F → Peers F → Type 0
  PeersRecord peer m second o old new = Records seen made_for old.limits old.kept.cap (reception peer m second o) old.kept.entries new.kept.entries
