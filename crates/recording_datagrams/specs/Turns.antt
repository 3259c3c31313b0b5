-- What is done with all peers now and then, and the lines that tell of it.
use Rattle.std.specs.Prelude.{◌≡◌, ◌<◌, ℕ, zero, suc, Bool, List, [], ◌∷◌, ◌++◌, Option, Some, None, Result}
use Rattle.std.specs.declared.net.socket_addr.SocketAddr.{SocketAddr}
use Rattle.lru.specs.LruCache.{last_entry}
use Rattle.recording_files.specs.Files.{FilesView}
use Rattle.recording_files.specs.declared.file_report.FileReport.{FileReport}
use Rattle.recording_folder.specs.declared.session_files.FilesEnd.{FilesEnd}
use Rattle.recording_peers.specs.Calls.{TakesTurn}
use Rattle.recording_peers.specs.Steps.{GoesOn, LastIsHeard, ended_by, first_by}
use Rattle.recording_peers.specs.Table.{without_last}
use Rattle.recording_peers.specs.declared.in_turn.InTurn.{InTurn}
use Rattle.recording_peers.specs.declared.peer_state.PeerState.{PeerState}
use Rattle.recording_peers.specs.declared.turn.Turn.{Turn}
use Rattle.recording_lines.specs.RecordLines.{not_received_line, turned_away_line}
use Rattle.recording_connections.specs.declared.shared_counts.SharedCounts.{SharedCounts}
use Rattle.recording_connections.specs.declared.shared_counts.RefusedPeers.{RefusedPeers}
use Rattle.recording_datagrams.specs.Ending.{Ends, order_lines, refusal_lines, resumed_lines}
use Rattle.recording_datagrams.specs.declared.ending.EndCause.TheVariants.{Idle}

-- ---- turns

module _ {F : Type 0} (seen : F → FilesView) (finishes : F → FileReport → FilesEnd → Type 0) where
  -- a session that ended with a fault in its turn, if it did, is finished with these lines
  abbrev pub EndedLines : SocketAddr → Option (PeerState F) → List ℕ → Type 0
  EndedLines peer None lines = lines ≡ []
  EndedLines peer (Some kept) lines = Ends seen finishes peer kept None lines

  -- a peer's refused datagrams are told, which of its domains went on, how many datagrams were doubled and reordered, and what ended it
  pub record IsTurnTold (t : InTurn F) (lines : List ℕ) : Type 0 where
    pub fall : List ℕ
    pub falls : EndedLines t.peer t.ended fall
    pub lines_are : lines ≡ refusal_lines t.peer t.refused ++ (resumed_lines t.peer t.resumed.items ++ (order_lines t.peer t.orders.items ++ fall))

-- a peer in its turn, and what its session was then
abbrev pub in_turn : {F : Type 0} → SocketAddr → Turn → PeerState F → InTurn F
in_turn peer t k = record { peer = peer; refused = t.refused; orders = t.orders; resumed = t.resumed; ended = ended_by t.answer k }

-- as a second began, and a period may be over
module _ {F : Type 0} (seen : F → FilesView) (finishes : F → FileReport → FilesEnd → Type 0) (second : ℕ) (is_over : Bool) where
  -- the peer that was silent for longest had its turn
  pub record IsTurn (before after : List (SocketAddr × PeerState F)) (lines : List ℕ) : Type 0 where
    pub turn : InTurn F
    pub goes_on : GoesOn seen second is_over before after turn
    pub is_told : IsTurnTold seen finishes turn lines

  -- a peer had its turn after others of which these are kept: it is kept before them, unless its session ended
  pub record HadTurn (e : SocketAddr × PeerState F) (others after : List (SocketAddr × PeerState F)) (lines : List ℕ) : Type 0 where
    pub new : PeerState F
    pub turn : Turn
    pub takes : TakesTurn seen e.1 new second is_over turn
    pub kept : after ≡ first_by turn.answer e.0 new others
    pub is_told : IsTurnTold seen finishes (in_turn e.0 turn new) lines

  -- each of these peers had one turn, the last one first, and they are kept in their order
  abbrev pub HadTurns : List (SocketAddr × PeerState F) → List (SocketAddr × PeerState F) → List ℕ → Type 0
  HadTurns [] after lines = (after ≡ []) × (lines ≡ [])
  HadTurns (e ∷ es) after lines =
      (others : List (SocketAddr × PeerState F)) × (before : List ℕ) × (own : List ℕ)
      × HadTurns es others before × HadTurn e others after own × (lines ≡ before ++ own)

-- ---- silent peers

module _ {F : Type 0} (seen : F → FilesView) (finishes : F → FileReport → FilesEnd → Type 0) (since : ℕ) where
  -- a peer whose last datagram came before then: its session ends with these lines
  pub record IsSilent (e : SocketAddr × PeerState F) (lines : List ℕ) : Type 0 where
    pub silent : e.1.heard < since
    pub ends : Ends seen finishes e.0 e.1 (Some Idle) lines

  -- the peer that was silent for longest goes
  pub record EndsOneSilent (before after : List (SocketAddr × PeerState F)) (lines : List ℕ) : Type 0 where
    pub gone : SocketAddr × PeerState F
    pub last : last_entry before ≡ Some gone
    pub others : after ≡ without_last before
    pub is_silent : IsSilent gone lines

  -- all of these, the last one first
  abbrev pub AreSilent : List (SocketAddr × PeerState F) → List ℕ → Type 0
  AreSilent [] lines = lines ≡ []
  AreSilent (e ∷ es) lines = (before : List ℕ) × (own : List ℕ) × AreSilent es before × IsSilent e own × (lines ≡ before ++ own)

  -- those go that follow the last one of which a datagram came since then
  pub record EndsSilent (before after : List (SocketAddr × PeerState F)) (lines : List ℕ) : Type 0 where
    pub gone : List (SocketAddr × PeerState F)
    pub those : before ≡ after ++ gone
    pub heard : LastIsHeard since after
    pub are_silent : AreSilent gone lines

-- ---- datagrams that had no session

abbrev pub turned_away_lines : Option RefusedPeers → List ℕ
turned_away_lines None = []
turned_away_lines (Some refused) = turned_away_line refused.count refused.last

abbrev pub not_received_lines : ℕ → List ℕ
not_received_lines zero = []
not_received_lines (suc n) = not_received_line (suc n)

abbrev pub unserved_lines : SharedCounts → List ℕ
unserved_lines shared = turned_away_lines shared.refused ++ not_received_lines shared.not_accepted

-- all is told
abbrev pub none_unserved : SharedCounts → SharedCounts
none_unserved shared = record shared { refused = None; not_accepted = 0 }
