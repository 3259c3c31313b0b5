-- A peer's session that has ended: its last file is finished, and its lines are told.
use Rattle.std.specs.Prelude.{◌≡◌, ℕ, ◌==◌, ◌&&◌, false, List, [], ◌++◌, drop, map, codes, Option, Some, None, Result, if◌then◌else◌}
use Rattle.std.specs.List.{flat_map}
use Rattle.std.specs.declared.net.socket_addr.SocketAddr.{SocketAddr}
use Rattle.recording_files.specs.declared.file_report.FileReport.{FileReport}
use Rattle.recording_files.specs.Files.{FilesView}
use Rattle.recording_folder.specs.declared.session_files.FilesEnd.{FilesEnd}
use Rattle.recording_files.specs.declared.record_fault.RecordFault.{RecordFault}
use Rattle.recording_order.specs.Counts.{counts_of}
use Rattle.recording_order.specs.Releases.{finish}
use Rattle.recording_order.specs.Windows.{WindowView}
use Rattle.recording_order.specs.declared.order_counts.OrderCounts.{OrderCounts}
use Rattle.ipfix_datagrams.specs.Reaches.{AdvancesView, told_of}
use Rattle.ipfix_datagrams.specs.declared.domain_advance.DomainAdvance.{DomainAdvance}
use Rattle.recording_peer.specs.Recording.{Tells as Reports, answer_of}
use Rattle.recording_peer.specs.declared.peer_session.PeerSession.{PeerSession}
use Rattle.recording_peer.specs.declared.resumption.Resumption.{Resumption}
use Rattle.recording_peers.specs.Calls.{Follows}
use Rattle.ipfix_message.specs.Faults.{number_of, name_of}
use Rattle.recording_peers.specs.declared.peer_state.PeerState.{PeerState}
use Rattle.recording_peers.specs.declared.refusals.Refusals.{Refusals}
use Rattle.report_writing.specs.Lines.{LinesView}
use Rattle.report_writing.specs.Writing.{Tells}
use Rattle.recording_lines.specs.RecordLines.{advance_line, order_line, peer_ended_line, refused_datagrams_line, resumed_line}
use Rattle.recording_connections.specs.Serving.{session_lines}
use Rattle.recording_datagrams.specs.declared.ending.EndCause.{EndCause}
use Rattle.recording_datagrams.specs.declared.ending.EndCause.TheVariants.{LongestSilent, Idle}

abbrev pub text_of : EndCause → List ℕ
text_of LongestSilent = codes "longest silent"
text_of Idle = codes "idle"

-- a line if datagrams of a peer were refused that weren't told
abbrev pub refusal_lines : SocketAddr → Option Refusals → List ℕ
refusal_lines peer None = []
refusal_lines peer (Some r) = refused_datagrams_line peer r.count (number_of r.last) (name_of r.last)

-- a line for each domain of which datagrams were doubled or reordered
abbrev pub domain_order_lines : SocketAddr → OrderCounts → List ℕ
domain_order_lines peer c = if (c.doubled == 0) && (c.reordered == 0) then [] else order_line peer c.domain c.doubled c.reordered

abbrev pub order_lines : SocketAddr → List OrderCounts → List ℕ
order_lines peer counts = flat_map (domain_order_lines peer) counts

-- of all that was counted since the counts began
abbrev pub counted_lines : SocketAddr → WindowView → List ℕ
counted_lines peer window = order_lines peer (map counts_of window.numbers)

-- a line for each domain that went on after an earlier run
abbrev pub resumption_line : SocketAddr → Resumption → List ℕ
resumption_line peer r = resumed_line peer r.domain r.templates

abbrev pub resumed_lines : SocketAddr → List Resumption → List ℕ
resumed_lines peer resumed = flat_map (resumption_line peer) resumed

-- a line if it ends without a fault
abbrev pub cause_lines : SocketAddr → Option EndCause → List ℕ
cause_lines peer None = []
cause_lines peer (Some cause) = peer_ended_line peer (text_of cause)

-- a line for each domain, in order of first appearance
abbrev pub domain_advance_line : SocketAddr → DomainAdvance → List ℕ
domain_advance_line peer d = advance_line peer d.domain d.advance d.came

abbrev pub advance_lines : SocketAddr → AdvancesView → List ℕ
advance_lines peer advances = flat_map (domain_advance_line peer) (told_of advances.reaches)

-- these, and the lines that a session of a connection has
abbrev pub told_lines : SocketAddr → PeerSession → FilesEnd → List ℕ
told_lines peer session end = advance_lines peer session.advances ++ session_lines peer session.session end

-- why it ends, and those
abbrev pub rest_lines : SocketAddr → Option EndCause → PeerSession → FilesEnd → List ℕ
rest_lines peer cause session end = cause_lines peer cause ++ told_lines peer session end

-- what was doubled and reordered, and that
abbrev pub ordered_lines : SocketAddr → WindowView → Option EndCause → PeerSession → FilesEnd → List ℕ
ordered_lines peer window cause session end = counted_lines peer window ++ rest_lines peer cause session end

-- what was refused, and that
abbrev pub ending_lines : SocketAddr → Option Refusals → WindowView → Option EndCause → PeerSession → FilesEnd → List ℕ
ending_lines peer refused window cause session end = refusal_lines peer refused ++ ordered_lines peer window cause session end

module _ {F : Type 0} (seen : F → FilesView) where
  -- of a session that ends without a fault all that waits is recorded first; another stays as it is
  abbrev pub IsReleasedFor : Option EndCause → PeerState F → PeerState F → Type 0
  IsReleasedFor None kept released = released ≡ kept
  IsReleasedFor (Some cause) kept released = (answer : Result (Unit {0}) RecordFault) × Follows seen finish false kept released answer

  -- what waits is recorded; then the last file of a peer was finished with its report, and the session's reports and advances are of
  -- the datagrams that its recorder counted; these lines tell it, and which domains went on that weren't told
  pub record Ends (finishes : F → FileReport → FilesEnd → Type 0) (peer : SocketAddr) (kept : PeerState F) (cause : Option EndCause)
      (lines : List ℕ) : Type 0 where
    pub released : PeerState F
    pub is_released : IsReleasedFor cause kept released
    pub session : PeerSession
    pub reports : Reports released.recorder.told session
    pub fault : session.session.ended ≡ answer_of released.recorder.ended
    pub end : FilesEnd
    pub is_end : finishes released.files session.session.last end
    pub lines_are : lines ≡ resumed_lines peer (drop released.resumptions_told session.resumed.items)
        ++ ending_lines peer released.refused released.window cause session end

-- what a call answers that writes lines of which this is true: there are such lines, and it tells them
pub record TellsSome {W A : Type 0} (out_lines : W → LinesView) (old new : W) (result : Result (Unit {0}) A) (Are : List ℕ → Type 0) : Type 0 where
  pub lines : List ℕ
  pub are : Are lines
  pub told : Tells out_lines old new result lines
