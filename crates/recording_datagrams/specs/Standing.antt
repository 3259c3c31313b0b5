-- What the sessions of peers stand for after rounds, and who is kept then.
use Rattle.std.specs.Prelude.{◌≡◌, ◌≢◌, ◌≤◌, ◌&&◌, ℕ, nat_lt, Bool, true, false, List, [], ◌∷◌, ◌++◌, if◌then◌else◌, Option, Some, None, IsSome, Result, Ok, Err}
use Rattle.std.specs.declared.net.socket_addr.SocketAddr.{SocketAddr}
use Rattle.recording_files.specs.Files.{FilesView}
use Rattle.recording_files.specs.Periods.{ClockView}
use Rattle.recording_files.specs.declared.file_report.FileReport.{FileReport}
use Rattle.recording_folder.specs.declared.session_files.FilesEnd.{FilesEnd}
use Rattle.recording_peers.specs.declared.peer_limits.PeerLimits.{PeerLimits}
use Rattle.recording_peers.specs.Happenings.{Happening, DatagramCame, SecondBegan}
use Rattle.recording_peers.specs.Kept.{IsSession}
use Rattle.recording_peers.specs.Table.{same_peer, of_peer, Paired}
use Rattle.recording_peers.specs.Sessions.{PeerHappenings, StandFor}
use Rattle.recording_peers.specs.declared.datagram_source.NoDatagram.{NoDatagram}
use Rattle.recording_peers.specs.declared.peer_state.PeerState.{PeerState}
use Rattle.recording_datagrams.specs.Taking.{Arrival}
use Rattle.recording_datagrams.specs.Rounds.{Round, IsRound, AreRounds, FromNone}
use Rattle.recording_datagrams.specs.declared.datagram_taker.DatagramTaker.{DatagramTaker}

-- ---- what happened to a peer in rounds

-- a second began, if it did
abbrev pub begun : Bool → ℕ → List Happening
begun false second = []
begun true second = SecondBegan second ∷ []

-- its datagram came, if it may send
abbrev pub own_datagram : SocketAddr → ℕ → Result Arrival NoDatagram → List Happening
own_datagram peer second (Ok a) = if a.may_send && same_peer peer a.peer then DatagramCame a.octets second ∷ [] else []
own_datagram peer second (Err e) = []

-- in a round after that second: its turn where a period is over, its datagram, and its turn in a new second
abbrev pub own_in : SocketAddr → ℕ → Round → List Happening
own_in peer was r = begun r.is_over r.second ++ (own_datagram peer r.second r.given ++ begun (nat_lt was r.second) r.second)

abbrev pub own_of : SocketAddr → ℕ → List Round → List Happening
own_of peer was [] = []
own_of peer was (r ∷ rs) = own_in peer was r ++ own_of peer r.second rs

-- ---- all of them, or the last ones

-- the datagrams among them, each with its second
abbrev pub came_among : List Happening → List (List ℕ × ℕ)
came_among [] = []
came_among (DatagramCame octets second ∷ hs) = (octets, second) ∷ came_among hs
came_among (SecondBegan second ∷ hs) = came_among hs

-- the last ones of these
pub record AreLast (hs all : List Happening) : Type 0 where
  pub before : List Happening
  pub are : all ≡ before ++ hs

-- each peer has the last ones of its own
abbrev pub HaveLast : (SocketAddr → List Happening) → PeerHappenings → Type 0
HaveLast own [] = Unit {0}
HaveLast own (c ∷ cs) = AreLast c.1 (own c.0) × HaveLast own cs

-- these, before which no datagram came
pub record HaveAllCame (hs all : List Happening) : Type 0 where
  pub before : List Happening
  pub none_came : came_among before ≡ []
  pub are : all ≡ before ++ hs

-- the last datagram among them came when the session heard of its peer
pub record IsHeard {F : Type 0} (k : PeerState F) (hs : List Happening) : Type 0 where
  pub before : List Happening
  pub octets : List ℕ
  pub after : List Happening
  pub are : hs ≡ before ++ DatagramCame octets k.heard ∷ after
  pub none_came : came_among after ≡ []

-- what happened to a peer in rounds before which no peer was kept
module _ {F P W : Type 0} {seen : F → FilesView} {finishes : F → FileReport → FilesEnd → Type 0} {made_for : F → SocketAddr → Type 0} {asked : P → ClockView} where
  abbrev pub own_by : FromNone W seen finishes made_for asked → SocketAddr → List Happening
  own_by run peer = own_of peer run.old.second run.rounds

-- the session of each of these peers stands for the last ones of its own, and says when the last datagram among them came
pub record StandForLast {F : Type 0} (seen : F → FilesView) (limits : PeerLimits) (own : SocketAddr → List Happening) (es : List (SocketAddr × PeerState F)) : Type 0 where
  pub happened : PeerHappenings
  pub stand : StandFor seen limits es happened
  pub last : HaveLast own happened
  pub heard : Paired IsHeard es happened

-- ---- peers that are kept

-- of each peer a datagram came since then
abbrev pub AreHeard : {F : Type 0} → ℕ → List (SocketAddr × PeerState F) → Type 0
AreHeard since [] = Unit {0}
AreHeard since (e ∷ es) = (since ≤ e.1.heard) × AreHeard since es

-- ---- a peer whose session stays

-- a session stands for all of these from the first datagram on; where there is none, no datagram came
abbrev pub StandsForAll : {F : Type 0} → (F → FilesView) → PeerLimits → Option (PeerState F) → List Happening → Type 0
StandsForAll seen limits None all = came_among all ≡ []
StandsForAll seen limits (Some k) all = (hs : List Happening) × HaveAllCame hs all × IsSession seen k limits hs

abbrev pub IsKept : {F P W : Type 0} → SocketAddr → DatagramTaker F P W → Type 0
IsKept peer r = IsSome (of_peer peer r.peers.kept.entries)

module _ {F P W : Type 0} (seen : F → FilesView) (finishes : F → FileReport → FilesEnd → Type 0) (made_for : F → SocketAddr → Type 0)
    (asked : P → ClockView) (peer : SocketAddr) where
  -- in a round its session didn't end: not as a period was over, at a datagram, or in a new second; and with a datagram of its own
  -- it is kept
  pub record StaysInRound (r : Round) (old new : DatagramTaker F P W) (is : IsRound seen finishes made_for asked r old new) : Type 0 where
    pub period : IsKept peer old → IsKept peer is.kept
    pub datagram : IsKept peer is.kept → IsKept peer is.taken
    pub own : own_datagram peer r.second r.given ≢ [] → IsKept peer is.taken
    pub second : IsKept peer is.taken → IsKept peer new

  -- and so in each
  abbrev pub StaysThrough : (rs : List Round) (old new : DatagramTaker F P W) → AreRounds seen finishes made_for asked rs old new → Type 0
  StaysThrough [] old new are = Unit {0}
  StaysThrough (r ∷ rs) old new are = StaysInRound r old are.0 are.1 × StaysThrough rs are.0 new are.2

-- after such rounds: one more; and the session of a peer ends in none of them
module _ {F P W : Type 0} {seen : F → FilesView} {finishes : F → FileReport → FilesEnd → Type 0} {made_for : F → SocketAddr → Type 0} {asked : P → ClockView} where
  abbrev pub IsNextRound : FromNone W seen finishes made_for asked → Round → DatagramTaker F P W → Type 0
  IsNextRound run r new = IsRound seen finishes made_for asked r run.new new

  abbrev pub NeverEnds : SocketAddr → FromNone W seen finishes made_for asked → Type 0
  NeverEnds peer run = StaysThrough seen finishes made_for asked peer run.rounds run.old run.new run.are
