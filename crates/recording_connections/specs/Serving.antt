-- A session that was recorded: its last file is finished, and its lines are written.
use Rattle.std.specs.Prelude.{◌≡◌, ◌⊎◌, ℕ, List, [], ◌++◌, codes, Option, Some, None, IfSome, Result, Ok, Err}
use Rattle.std.specs.declared.alloc.AllocError.{AllocError}
use Rattle.std.specs.declared.io.ErrorKind.{ErrorKind}
use Rattle.std.specs.declared.io.ErrorKind.TheVariants.{WouldBlock}
use Rattle.std.specs.declared.net.socket_addr.SocketAddr.{SocketAddr}
use Rattle.ipfix_message.specs.declared.fault.MessageFault.TheVariants.{OutOfMemory}
use Rattle.ipfix_session.specs.Sources.{SourceView}
use Rattle.ipfix_session.specs.declared.driver.TheConstants.{READ_LIMIT}
use Rattle.ipfix_session.specs.declared.session_limits.SessionLimits.{SessionLimits}
use Rattle.recording_files.specs.Faults.{number_of, name_of}
use Rattle.recording_files.specs.Files.{FilesView}
use Rattle.recording_files.specs.Periods.{ClockView}
use Rattle.recording_files.specs.Sessions.{RecordsSession}
use Rattle.recording_files.specs.declared.file_report.FileReport.{FileReport}
use Rattle.recording_files.specs.declared.file_series.NotWritten.{NotWritten}
use Rattle.recording_files.specs.declared.record_fault.RecordFault.{RecordFault}
use Rattle.recording_files.specs.declared.record_fault.RecordFault.TheVariants as faults
use Rattle.recording_files.specs.declared.recorded_session.RecordedSession.{RecordedSession}
use Rattle.recording_folder.specs.declared.session_files.FilesEnd.{FilesEnd}
use Rattle.recording_lines.specs.RecordLines.{peer_ended_line, peer_fault_line, peer_loss_lines, peer_reason_line}
use Rattle.report_writing.specs.OpeningLines.{if_verbose}
use Rattle.report_writing.specs.Reasons.{reason_of, words_of}
use Rattle.report_writing.specs.declared.reason.Reason.{Reason}
use Rattle.report_writing.specs.declared.verbosity.Verbosity.{Verbosity}
use Rattle.recording_connections.specs.declared.connection.Connection.{Connection}
use Rattle.recording_connections.specs.declared.place.Recording.{Recording}
use Rattle.recording_connections.specs.declared.recorder_run.RecordOrder.{RecordOrder}
use Rattle.recording_connections.specs.declared.running.ConnectionRecorder.{ConnectionRecorder}

abbrev pub fault_line : SocketAddr → RecordFault → List ℕ
fault_line peer fault = peer_fault_line peer (number_of fault) (name_of fault)

-- and why the system made it one
abbrev pub reason_line : SocketAddr → RecordFault → Reason → List ℕ
reason_line peer fault reason = peer_reason_line peer (number_of fault) (name_of fault) (words_of reason)

-- a file was not written, or not finished, and why, if that is known
abbrev pub not_written_line : SocketAddr → Option Reason → List ℕ
not_written_line peer None = fault_line peer faults.NotWritten
not_written_line peer (Some reason) = reason_line peer faults.NotWritten reason

-- that the last file was not finished is a fault, too
abbrev pub finish_lines : SocketAddr → Option Reason → Result (Unit {0}) NotWritten → List ℕ
finish_lines peer reason (Ok x) = []
finish_lines peer reason (Err e) = not_written_line peer reason

-- the fault that ended a session; that a file could not be written is told once
abbrev pub fault_lines : SocketAddr → RecordFault → FilesEnd → List ℕ
fault_lines peer faults.NotWritten end = not_written_line peer end.reason
fault_lines peer fault end = fault_line peer fault ++ finish_lines peer end.reason end.finished

-- why it ended
abbrev pub end_lines : SocketAddr → Result (Unit {0}) RecordFault → FilesEnd → List ℕ
end_lines peer (Ok x) end = finish_lines peer end.reason end.finished
end_lines peer (Err fault) end = fault_lines peer fault end

-- what its sequence numbers say, and then its faults
abbrev pub session_lines : SocketAddr → RecordedSession → FilesEnd → List ℕ
session_lines peer session end = peer_loss_lines peer session.report.report.domains.items ++ end_lines peer session.ended end

-- ---- over a connection

-- what its source answers of the read that failed, if that ended the session
abbrev pub read_failure : Result (Unit {0}) RecordFault → Option ErrorKind → Option ErrorKind
read_failure (Err faults.ReadFailed) failure = failure
read_failure ended failure = None

-- that nothing came for as long as it may be silent
abbrev pub silence_lines : SocketAddr → Option ErrorKind → List ℕ
silence_lines peer (Some WouldBlock) = peer_ended_line peer (codes "idle")
silence_lines peer failure = []

-- and why it could not be read on, where more is asked for
abbrev pub read_lines : Verbosity → SocketAddr → Option ErrorKind → List ℕ
read_lines verbosity peer (Some kind) = if_verbose verbosity (reason_line peer faults.ReadFailed (reason_of kind))
read_lines verbosity peer None = []

-- after the lines of its session
abbrev pub more_lines : Verbosity → SocketAddr → Option ErrorKind → RecordedSession → FilesEnd → List ℕ
more_lines verbosity peer failure session end = session_lines peer session end ++ read_lines verbosity peer failure

-- and before them
abbrev pub all_lines : Verbosity → SocketAddr → Option ErrorKind → RecordedSession → FilesEnd → List ℕ
all_lines verbosity peer failure session end = silence_lines peer failure ++ more_lines verbosity peer failure session end

-- how far the session of a connection goes: its templates count no more than the order says
abbrev pub limits_of : RecordOrder → SessionLimits
limits_of order = record { reads = READ_LIMIT; templates = Some order.templates }

-- what contracts see of a session's source, of what that answers of a failed read, of its files and its clock, and of how the last file is
-- finished
pub record Views (S F C : Type 0) : Type 1 where
  pub seen : S → SourceView
  pub failure : S → Option ErrorKind
  pub files : F → FilesView
  pub asked : C → ClockView
  pub finishes : F → FileReport → FilesEnd → Type 0

abbrev pub views : {S F C : Type 0} → (S → SourceView) → (S → Option ErrorKind) → (F → FilesView) → (C → ClockView) → (F → FileReport → FilesEnd → Type 0) → Views S F C
views seen failure files asked finishes = record { seen = seen; failure = failure; files = files; asked = asked; finishes = finishes }

-- the session of a source was recorded within limits in the files of a recording, by its clock; the last of them was finished with
-- its report, and its lines were told, with what the source answers of its failure
pub record IsRecorded {S F C : Type 0} (sees : Views S F C) (source after : S) (recording : Recording F C) (limits : SessionLimits) (verbosity : Verbosity) (peer : SocketAddr)
    (tells : List ℕ → Type 0) : Type 0 where
  pub session : RecordedSession
  pub written : F
  pub asked_last : C
  pub recorded : RecordsSession sees.seen sees.files sees.asked limits source after recording.files written recording.clock asked_last session
  pub end : FilesEnd
  pub is_end : sees.finishes written session.last end
  pub said : Option ErrorKind
  pub is_said : IfSome said (λ kind. sees.failure after ≡ Some kind)
  pub told : tells (all_lines verbosity peer (read_failure session.ended said) session end)

-- the files and the clock that a place makes for a session of a peer with a number; or it refuses them
abbrev pub MakesRecordings : Type 0 → Type 0 → Type 1
MakesRecordings F C = SocketAddr → ℕ → Result (Recording F C) AllocError → Type 0

-- the same of a connection, in the files that a place made for a session of this number; or the place refused them: then that is
-- its fault, and nothing of the connection was read
abbrev pub IsServed : {S F C : Type 0} → Views S F C → MakesRecordings F C → Connection S → Connection S → ℕ → SessionLimits → Verbosity → (List ℕ → Type 0) → Type 0
IsServed {S} {F} {C} sees makes before after number limits verbosity tells =
    ((recording : Recording F C) × makes before.peer number (Ok recording) × IsRecorded sees before.source after.source recording limits verbosity before.peer tells)
    ⊎ ((lack : AllocError) × makes before.peer number (Err lack) × (after ≡ before) × tells (fault_line before.peer (faults.Message OutOfMemory)))

-- by a recorder: at its place, and as its order says; with the lines of its beginning and its end
abbrev pub IsServedBy : {S F C L P : Type 0} → Views S F C → (P → MakesRecordings F C) → ConnectionRecorder L P → ℕ → Connection S → Connection S
    → (Verbosity → SocketAddr → List ℕ → Type 0) → Type 0
IsServedBy sees makes recorder number before after tells =
    let order = recorder.order.now in IsServed sees (makes recorder.place) before after number (limits_of order) order.verbosity (tells order.verbosity before.peer)
