-- A datagram that came: what became of it, and the lines that tell of that.
use Rattle.std.specs.Prelude.{◌≡◌, ◌↔◌, ℕ, Bool, true, false, IsTrue, List, [], ◌++◌, Option, Some, None, Result}
use Rattle.std.specs.Net.Socket.{socket_ip}
use Rattle.std.specs.declared.net.socket_addr.SocketAddr.{SocketAddr}
use Rattle.ipfix_message.specs.declared.fault.MessageFault.TheVariants.{OutOfMemory}
use Rattle.recording_files.specs.Files.{FilesView}
use Rattle.recording_files.specs.declared.file_report.FileReport.{FileReport}
use Rattle.recording_folder.specs.declared.session_files.FilesEnd.{FilesEnd}
use Rattle.recording_files.specs.declared.record_fault.RecordFault.TheVariants as faults
use Rattle.recording_peers.specs.Steps.{KeepsLimits, PeersRecord}
use Rattle.recording_peers.specs.declared.peer_state.PeerState.{PeerState}
use Rattle.recording_peers.specs.declared.peers.Peers.{Peers}
use Rattle.recording_peers.specs.declared.outcome.Became.{Became}
use Rattle.recording_peers.specs.declared.outcome.Became.TheVariants.{Taken, Ended, NoPlace, NoMemory}
use Rattle.network_prefixes.specs.Peers.{LetsIn}
use Rattle.recording_connections.specs.Refusals.{one_more_refused}
use Rattle.recording_connections.specs.Serving.{fault_line}
use Rattle.recording_connections.specs.declared.shared_counts.SharedCounts.{SharedCounts}
use Rattle.network_prefixes.specs.declared.peer_filter.PeerFilter.{PeerFilter}
use Rattle.recording_datagrams.specs.Ending.{Ends}
use Rattle.recording_datagrams.specs.declared.ending.EndCause.TheVariants.{LongestSilent}

-- a datagram that came, and whether its peer may send
pub record Arrival : Type 0 where
  pub peer : SocketAddr
  pub octets : List ℕ
  pub may_send : Bool

-- a datagram of a peer that may not send, or that has no place, is counted
abbrev pub one_turned_away : SharedCounts → SocketAddr → SharedCounts
one_turned_away shared from = record shared { refused = Some (one_more_refused shared.refused from) }

-- by what became of one of a peer that may send: one that finds no place is counted so, and no other
abbrev pub unserved_by : {F : Type 0} → Became F → SharedCounts → SocketAddr → SharedCounts
unserved_by Taken shared from = shared
unserved_by (Ended kept) shared from = shared
unserved_by NoPlace shared from = one_turned_away shared from
unserved_by NoMemory shared from = shared

-- there was no memory for a datagram of a peer
abbrev pub no_memory_line : SocketAddr → List ℕ
no_memory_line peer = fault_line peer (faults.Message OutOfMemory)

module _ {F : Type 0} (seen : F → FilesView) (finishes : F → FileReport → FilesEnd → Type 0) where
  -- the session of a peer that went ends, with these lines
  abbrev pub GoneLines : Option (SocketAddr × PeerState F) → List ℕ → Type 0
  GoneLines None lines = lines ≡ []
  GoneLines (Some gone) lines = Ends seen finishes gone.0 gone.1 (Some LongestSilent) lines

  -- the lines of what became of a datagram: of one that was taken none; refused and doubled ones, and those that find no place, are
  -- told later
  abbrev pub OutcomeLines : SocketAddr → Became F → List ℕ → Type 0
  OutcomeLines peer Taken lines = lines ≡ []
  OutcomeLines peer (Ended kept) lines = Ends seen finishes peer kept None lines
  OutcomeLines peer NoPlace lines = lines ≡ []
  OutcomeLines peer NoMemory lines = lines ≡ no_memory_line peer

module _ {F : Type 0} (seen : F → FilesView) (finishes : F → FileReport → FilesEnd → Type 0) (made_for : F → SocketAddr → Type 0)
    (before after : Peers F) where
  -- a datagram was taken among the peers that are kept, and what went or ended at that was finished and told
  pub record IsProcessed (shared then : SharedCounts) (from : SocketAddr) (m : List ℕ) (now : ℕ) (lines : List ℕ) : Type 0 where
    pub became : Became F
    pub counted : then ≡ unserved_by became shared from
    pub gone : Option (SocketAddr × PeerState F)
    pub records : PeersRecord seen made_for from m now (record { became = became; gone = gone }) before after
    pub limits : KeepsLimits before after
    pub gone_lines : List ℕ
    pub goes : GoneLines seen finishes gone gone_lines
    pub own_lines : List ℕ
    pub becomes : OutcomeLines seen finishes from became own_lines
    pub lines_are : lines ≡ gone_lines ++ own_lines

  -- one of a peer that may send is taken; of another it is counted that it came, and no more
  abbrev pub IsProcessedIf : Bool → SharedCounts → SharedCounts → SocketAddr → List ℕ → ℕ → List ℕ → Type 0
  IsProcessedIf true shared then from m now lines = IsProcessed shared then from m now lines
  IsProcessedIf false shared then from m now lines = (then ≡ one_turned_away shared from) × (after ≡ before) × (lines ≡ [])

  -- by the filter
  pub record Arrives (filter : PeerFilter) (shared then : SharedCounts) (a : Arrival) (now : ℕ) (lines : List ℕ) : Type 0 where
    pub may_send : IsTrue a.may_send ↔ LetsIn filter (socket_ip a.peer)
    pub taken : IsProcessedIf a.may_send shared then a.peer a.octets now lines
