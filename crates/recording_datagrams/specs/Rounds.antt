-- Rounds of taking datagrams: what each had, and what it did.
use Rattle.std.specs.Prelude.{◌≡◌, ◌≤◌, ◌<◌, ◌-◌, ◌⊎◌, ℕ, Bool, true, false, List, [], ◌∷◌, ◌++◌, length, map, flat_map, Result, Ok, Err}
use Rattle.std.specs.declared.net.socket_addr.SocketAddr.{SocketAddr}
use Rattle.ipfix_session.specs.Sources.{one_more}
use Rattle.recording_files.specs.Files.{FilesView}
use Rattle.recording_files.specs.Periods.{ClockView, IsAnswer}
use Rattle.recording_files.specs.declared.file_report.FileReport.{FileReport}
use Rattle.recording_folder.specs.declared.session_files.FilesEnd.{FilesEnd}
use Rattle.recording_peers.specs.Answers.{Answer, Gives}
use Rattle.recording_peers.specs.Steps.{KeepsLimits}
use Rattle.recording_peers.specs.declared.datagram_source.NoDatagram.{NoDatagram}
use Rattle.recording_peers.specs.declared.datagram_source.NoDatagram.TheVariants.{Tick, Failed}
use Rattle.recording_peers.specs.declared.peer_state.PeerState.{PeerState}
use Rattle.recording_connections.specs.declared.shared_counts.SharedCounts.{SharedCounts}
use Rattle.report_writing.specs.Lines.{LinesView}
use Rattle.report_writing.specs.Writing.{Tells}
use Rattle.recording_datagrams.specs.Ending.{TellsSome}
use Rattle.recording_datagrams.specs.Taking.{Arrival, Arrives}
use Rattle.recording_datagrams.specs.Turns.{HadTurns, EndsSilent, unserved_lines, none_unserved}
use Rattle.recording_datagrams.specs.declared.datagram_taker.DatagramTaker.{DatagramTaker}

-- what a round had
pub record Round : Type 0 where
  -- the datagram that the source gave, or why it gave none
  pub given : Result Arrival NoDatagram
  -- whether the period was over
  pub is_over : Bool
  -- when it was, in seconds
  pub second : ℕ
  -- what was told
  pub lines : List ℕ

-- ---- what the source answered

abbrev pub answer_in : Result Arrival NoDatagram → Answer
answer_in (Ok a) = Ok (a.peer, a.octets)
answer_in (Err why) = Err why

abbrev pub answers_of : List Round → List Answer
answers_of rs = map (λ r. answer_in r.given) rs

abbrev pub lines_of : List Round → List ℕ
lines_of rs = flat_map (λ r. r.lines) rs

-- ---- what it did

-- once more none could be received
abbrev pub one_not_received : SharedCounts → SharedCounts
one_not_received shared = record shared { not_accepted = one_more shared.not_accepted }

module _ {F : Type 0} (seen : F → FilesView) (finishes : F → FileReport → FilesEnd → Type 0) where
  -- if a period is over all peers have their turn, and else nothing changes
  abbrev pub HadTurnsIf : Bool → ℕ → List (SocketAddr × PeerState F) → List (SocketAddr × PeerState F) → List ℕ → Type 0
  HadTurnsIf true second es after lines = HadTurns seen finishes second true es after lines
  HadTurnsIf false second es after lines = (after ≡ es) × (lines ≡ [])

-- a call of a taker does this with it, and tells the lines of that
abbrev pub Does : {F P W A : Type 0} → (W → LinesView) → DatagramTaker F P W → DatagramTaker F P W → Result (Unit {0}) A
    → (DatagramTaker F P W → DatagramTaker F P W → List ℕ → Type 0) → Type 0
Does out_lines old new answer This = TellsSome out_lines old.out new.out answer (This old new)

module _ {F P W : Type 0} (seen : F → FilesView) (finishes : F → FileReport → FilesEnd → Type 0) where
  -- in a new second all peers have their turn, those that have been silent for longer than they may be go, and what had no
  -- session is told
  pub record TellsAndEnds (now : ℕ) (old new : DatagramTaker F P W) (lines : List ℕ) : Type 0 where
    pub between : List (SocketAddr × PeerState F)
    pub told : List ℕ
    pub turns : HadTurns seen finishes now false old.peers.kept.entries between told
    pub ended : List ℕ
    pub silent : EndsSilent seen finishes (now - old.idle) between new.peers.kept.entries ended
    pub lines_are : lines ≡ told ++ (ended ++ unserved_lines old.unserved)
    pub limits : KeepsLimits old.peers new.peers
    pub others : new ≡ record old { second = now; peers = new.peers; unserved = none_unserved old.unserved; out = new.out }

  -- the second never goes back
  abbrev pub KeepsToSeconds : ℕ → DatagramTaker F P W → DatagramTaker F P W → List ℕ → Type 0
  KeepsToSeconds now old new lines = ((now ≤ old.second) × (new ≡ old) × (lines ≡ [])) ⊎ ((old.second < now) × TellsAndEnds now old new lines)

module _ {F P W : Type 0} (seen : F → FilesView) (finishes : F → FileReport → FilesEnd → Type 0) (made_for : F → SocketAddr → Type 0)
    (asked : P → ClockView) where
  -- the clock of the place is asked once
  pub record KeepsToPeriods (is_over : Bool) (now : ℕ) (old new : DatagramTaker F P W) (lines : List ℕ) : Type 0 where
    pub answer : IsAnswer (asked old.place) is_over (asked new.place)
    pub turns : HadTurnsIf seen finishes is_over now old.peers.kept.entries new.peers.kept.entries lines
    pub limits : KeepsLimits old.peers new.peers
    pub others : new ≡ record old { peers = new.peers; place = new.place; out = new.out }

  -- a datagram is taken under its peer
  pub record TakesArrival (a : Arrival) (now : ℕ) (old new : DatagramTaker F P W) (lines : List ℕ) : Type 0 where
    pub arrives : Arrives seen finishes made_for old.peers new.peers old.filter.now old.unserved new.unserved a now lines
    pub others : new ≡ record old { peers = new.peers; place = new.place; unserved = new.unserved; out = new.out }

  -- what the source gave is taken; a failure is counted
  abbrev pub TakesGiven : Result Arrival NoDatagram → ℕ → DatagramTaker F P W → DatagramTaker F P W → List ℕ → Type 0
  TakesGiven (Ok a) now old new lines = TakesArrival a now old new lines
  TakesGiven (Err Tick) now old new lines = (new ≡ old) × (lines ≡ [])
  TakesGiven (Err Failed) now old new lines = (new ≡ record old { unserved = one_not_received old.unserved }) × (lines ≡ [])

  -- the periods are kept to, what the source gave is taken, and then the second may be a new one
  pub record IsRound (r : Round) (old new : DatagramTaker F P W) : Type 0 where
    pub forward : old.second ≤ r.second
    pub kept : DatagramTaker F P W
    pub kept_lines : List ℕ
    pub keeps : KeepsToPeriods r.is_over r.second old kept kept_lines
    pub taken : DatagramTaker F P W
    pub taken_lines : List ℕ
    pub takes : TakesGiven r.given r.second kept taken taken_lines
    pub last_lines : List ℕ
    pub goes_on : KeepsToSeconds seen finishes r.second taken new last_lines
    pub lines_are : r.lines ≡ kept_lines ++ (taken_lines ++ last_lines)

  -- one after another
  abbrev pub AreRounds : List Round → DatagramTaker F P W → DatagramTaker F P W → Type 0
  AreRounds [] old new = new ≡ old
  AreRounds (r ∷ rs) old new = (between : DatagramTaker F P W) × IsRound r old between × AreRounds rs between new

  -- one of them: the source was asked once, and its answer is that of the round
  pub record TakesRound {D A : Type 0} (answered : D → List Answer → Type 0) (out_lines : W → LinesView) (before after : D)
      (old new : DatagramTaker F P W) (answer : Result (Unit {0}) A) : Type 0 where
    pub round : Round
    pub is : IsRound round old new
    pub given : Gives answered (answer_in round.given ∷ []) before after
    pub told : Tells out_lines old.out new.out answer round.lines

  -- so many rounds: the source was asked once in each, and what it answered is what was taken in them, each datagram once and in
  -- its order; and all their lines are told, unless a write failed
  pub record TakesRounds {D A : Type 0} (answered : D → List Answer → Type 0) (out_lines : W → LinesView) (count : ℕ) (before after : D)
      (old new : DatagramTaker F P W) (answer : Result (Unit {0}) A) : Type 0 where
    pub rounds : List Round
    pub as_many : length rounds ≡ count
    pub are : AreRounds rounds old new
    pub given : Gives answered (answers_of rounds) before after
    pub told : Tells out_lines old.out new.out answer (lines_of rounds)

-- rounds, before the first of which no peer was kept
pub record FromNone {F P : Type 0} (W : Type 0) (seen : F → FilesView) (finishes : F → FileReport → FilesEnd → Type 0) (made_for : F → SocketAddr → Type 0)
    (asked : P → ClockView) : Type 0 where
  pub rounds : List Round
  pub old : DatagramTaker F P W
  pub new : DatagramTaker F P W
  pub none : old.peers.kept.entries ≡ []
  pub are : AreRounds seen finishes made_for asked rounds old new
