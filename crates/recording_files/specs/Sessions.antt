-- A session of a source in files: what stands in them, and when each is finished.
use Rattle.std.specs.Prelude.{◌≡◌, ◌≢◌, ◌+◌, ◌≤◌, All, ◌⊎◌, ℕ, List, [], ◌∷◌, ◌++◌, length, map, Option, Some, None, Result, Ok, Err}
use Rattle.ipfix_message.specs.Domains.{Message}
use Rattle.ipfix_message.specs.declared.fault.MessageFault.TheVariants.{OutOfMemory}
use Rattle.ipfix_session.specs.declared.fault.SessionFault.{SessionFault}
use Rattle.ipfix_session.specs.declared.fault.SessionFault.TheVariants as faults
use Rattle.ipfix_session.specs.declared.session_limits.SessionLimits.{SessionLimits}
use Rattle.ipfix_session.specs.Given.{given_within, IsPrefix, octets_of, records_in}
use Rattle.ipfix_session.specs.Sources.{SourceView, one_more}
use Rattle.ipfix_session.specs.Places.{CountsInFull}
use Rattle.ipfix_session.specs.Drives.{GaveWithin}
use Rattle.recording_files.specs.declared.record_fault.RecordFault.{RecordFault}
use Rattle.recording_files.specs.declared.record_fault.RecordFault.TheVariants.{Message as OfMessage, Truncated, ReadFailed, TooManyReads, NotWritten}
use Rattle.recording_files.specs.declared.file_report.FileReport.{FileReport}
use Rattle.recording_files.specs.declared.recorded_session.RecordedSession.{RecordedSession}
use Rattle.recording_files.specs.Recordings.{Part, Recorded, Writes}
use Rattle.recording_files.specs.FileReports.{file_report, file_reports}
use Rattle.recording_files.specs.Faithful.{all_messages, all_given}
use Rattle.recording_files.specs.Files.{AreAllSeen, Contents, FilesView}
use Rattle.recording_files.specs.Periods.{ClockView, AskedRead, AreAskedReads, clock_behind, source_behind, octets_read, octets_before, finished_by}

-- how far a recording has come
pub record Progress : Type 0 where
  -- what the templates of the session may count, if they have a limit
  pub limit : Option ℕ
  -- the octets that its reads gave, and those of the reads before the last
  pub text : List ℕ
  pub earlier : List ℕ
  -- the messages of each file whose period is over
  pub finished : List (List Message)
  -- the files as they were at first
  pub first : FilesView

-- after these reads, of which the newest comes first
abbrev pub progress_after : {S C : Type 0} → Option ℕ → FilesView → List (AskedRead S C) → Progress
progress_after limit first reads = record { limit = limit; text = octets_read reads; earlier = octets_before reads; finished = finished_by limit reads; first = first }

-- the octets of the file that a part stands in
abbrev pub file_octets : Part → List ℕ
file_octets p = octets_of p.file

-- the parts of a session, the last in the file that isn't finished
abbrev pub parts : List Part → Part → List Part
parts finished last = finished ++ last ∷ []

abbrev pub HasMessage : Part → Type 0
HasMessage p = p.given ≢ []

-- the files that came after the first ones are those of these parts, finished with these reports, and after the last stand these
-- octets; where they tell nothing, nothing is said
abbrev pub StandsWith : List FileReport → Option Contents → Option Contents → List Part → Part → List ℕ → Type 0
StandsWith reports None None finished last cut_off = Unit {0}
StandsWith reports None (Some after) finished last cut_off = ⊥
StandsWith reports (Some first) None finished last cut_off = ⊥
StandsWith reports (Some first) (Some after) finished last cut_off =
    (after.finished ≡ first.finished ++ map file_octets finished) × (after.reports ≡ first.reports ++ reports) × (after.unfinished ≡ file_octets last ++ cut_off)

-- each with the report of its messages
abbrev pub Stands : Option Contents → Option Contents → List Part → Part → List ℕ → Type 0
Stands first after finished last cut_off = StandsWith (file_reports [] finished) first after finished last cut_off

-- the first octets of what was to stand next in a file: the next messages of a text, and what precedes them
pub record IsCutOff (limit : Option ℕ) (text : List ℕ) (before here : List Message) (cut_off : List ℕ) : Type 0 where
  pub messages : List (List ℕ)
  pub given : List Message
  pub file : List (List ℕ)
  pub writes : Writes before here messages given file
  pub next : IsPrefix (before ++ (here ++ given)) (given_within limit text).messages
  pub first : IsPrefix cut_off (octets_of file)

-- the first messages of a text, whose templates may count so much, or anything, stand in the files that came after the first
-- ones, and after them, in the last file, octets that are no whole message
pub record Holds (limit : Option ℕ) (text : List ℕ) (first after : FilesView) (cut_off : List ℕ) : Type 0 where
  pub finished : List Part
  pub last : Part
  -- the files are a recording: `recordings_are_faithful` says what that is worth
  pub recorded : Recorded [] (parts finished last)
  -- no file was finished without a message
  pub some : All HasMessage finished
  pub stands : Stands first.contents after.contents finished last cut_off
  -- its messages are the first octets of the text, as they came
  pub left : List ℕ
  pub octets : text ≡ octets_of (all_messages (parts finished last)) ++ left
  -- and they give what they give in the session, which has no fault before
  pub given : IsPrefix (all_given (parts finished last)) (given_within limit text).messages

-- the messages of each of these parts
abbrev pub files_of : List Part → List (List Message)
files_of ps = map (λ p. p.given) ps

-- what is told of the messages of finished files, and of those of the file that isn't finished
module _ (told : List Message → List Message → Type 0) where
  -- no call of the files failed, and those whose period is over are finished
  pub record HoldsSome (p : Progress) (after : FilesView) : Type 0 where
    pub holds : Holds p.limit p.text p.first after []
    pub finished : files_of holds.finished ≡ p.finished
    pub not_failed : after.failed ≡ p.first.failed
    pub tells : told (all_given holds.finished) holds.last.given

  -- and the files have all messages of the text, up to its end or its first fault
  pub record HoldsAll (p : Progress) (after : FilesView) : Type 0 where
    pub some : HoldsSome p after
    pub all : all_given (parts some.holds.finished some.holds.last) ≡ (given_within p.limit p.text).messages

  -- and the files have at least all messages that the reads before the last had given
  pub record HoldsEarlier (p : Progress) (after : FilesView) : Type 0 where
    pub some : HoldsSome p after
    pub at_least : IsPrefix (given_within p.limit p.earlier).messages (all_given (parts some.holds.finished some.holds.last))

  -- a file was finished, and no message has come after it; it is told as the one that isn't finished
  pub record TellsOfFinished (finished : List Part) (last : Part) : Type 0 where
    pub earlier : List Part
    pub part : Part
    pub are : finished ≡ parts earlier part
    pub none : last.given ≡ []
    pub tells : told (all_given earlier) part.given

  -- a call of the files failed: the messages that the reads before the last had given stand whole, and after them are at
  -- most the first octets of what was to stand there next
  pub record HoldsCut (p : Progress) (after : FilesView) : Type 0 where
    pub cut_off : List ℕ
    pub holds : Holds p.limit p.text p.first after cut_off
    pub all : all_given (parts holds.finished holds.last) ≡ (given_within p.limit p.earlier).messages
    pub next : IsCutOff p.limit p.text (all_given holds.finished) holds.last.given cut_off
    -- these files are finished, or all but the last of them
    pub finished : (files_of holds.finished ≡ p.finished) ⊎ (files_of (parts holds.finished holds.last) ≡ p.finished)
    pub failed : after.failed ≡ one_more p.first.failed
    -- the messages that stand whole are told, in their files; where a file could not be finished, it is told as that
    pub tells : told (all_given holds.finished) holds.last.given ⊎ TellsOfFinished holds.finished holds.last

  -- what stands in the files by the answer
  abbrev pub HoldsBy : Result (Unit {0}) RecordFault → Progress → FilesView → Type 0
  HoldsBy (Err NotWritten) p after = HoldsCut p after
  HoldsBy (Err (OfMessage OutOfMemory)) p after = HoldsEarlier p after
  HoldsBy answer p after = HoldsAll p after

-- the fault as a session's: files that take no more are a sink that takes no more
abbrev pub fault_of : Result (Unit {0}) RecordFault → Option SessionFault
fault_of (Ok x) = None
fault_of (Err (OfMessage e)) = Some (faults.Message e)
fault_of (Err Truncated) = Some faults.Truncated
fault_of (Err ReadFailed) = Some faults.ReadFailed
fault_of (Err TooManyReads) = Some faults.TooManyReads
fault_of (Err NotWritten) = Some faults.SinkClosed

-- the reads of a source gave octets up to this answer, which is due, and the files hold their messages, which are told; a file is
-- finished where the clock, asked after each read, tells that the period is over
pub record RecordsTo {S F C : Type 0} (seen : S → SourceView) (view : F → FilesView) (asked : C → ClockView) (limits : SessionLimits) (before after : S) (first last : F) (start end : C)
    (answer : Result (Unit {0}) RecordFault) (told : List Message → List Message → Type 0) : Type 0 where
  -- after each read that gave octets, or was interrupted, the clock was asked once, and not otherwise
  pub reads : List (AskedRead S C)
  pub are_reads : AreAskedReads seen asked before start reads
  pub given : GaveWithin seen limits before (octets_read reads) after (fault_of answer)
  pub last_answer : clock_behind start reads ≡ end
  pub one_read : (seen after).reads ≤ (seen (source_behind before reads)).reads + 1
  pub holds : HoldsBy told answer (progress_after limits.templates (view first) reads) (view last)

-- the report of a recorded session is that of all its messages
pub record IsReported (r : RecordedSession) (before here : List Message) : Type 0 where
  pub session : CountsInFull r.report (before ++ here) (length (records_in (before ++ here)))
  -- its domains aren't told
  pub no_domains : r.report.domains ≡ None
  pub fault : r.report.report.fault ≡ fault_of r.ended

-- and there is that of the file that isn't finished
pub record IsTold (r : RecordedSession) (before here : List Message) : Type 0 where
  pub reported : IsReported r before here
  pub last : r.last ≡ file_report before here

-- and the reports tell them
abbrev pub RecordsSession : {S F C : Type 0} → (S → SourceView) → (F → FilesView) → (C → ClockView) → SessionLimits → S → S → F → F → C → C → RecordedSession → Type 0
RecordsSession seen view asked limits before after first last start end r = RecordsTo seen view asked limits before after first last start end r.ended (IsTold r)

-- the session of a source with this text was recorded without a fault, and took the first files to the last
pub record RecordsAll {S F C : Type 0} (seen : S → SourceView) (view : F → FilesView) (asked : C → ClockView) (text : List ℕ) (first last : F) : Type 0 where
  pub limits : SessionLimits
  pub before : S
  pub after : S
  pub start : C
  pub end : C
  pub session : RecordedSession
  pub records : RecordsSession seen view asked limits before after first last start end session
  pub no_fault : session.ended ≡ Ok tt
  pub text_is : (seen before).text ≡ Some text

-- ---- what is seen of the files

-- a recorded session of which that holds, whose files tell what they have, and began with none
pub record Seen (Holding : (List Message → List Message → Type 0) → Progress → FilesView → Type 0) : Type 0 where
  pub progress : Progress
  pub after : FilesView
  pub now : Contents
  pub session : RecordedSession
  pub holds : Holding (IsTold session) progress after
  pub seen : AreAllSeen progress.first after now

-- one of a source with this text that was recorded without a fault
pub record SeenToTheEnd {S F C : Type 0} (seen : S → SourceView) (view : F → FilesView) (asked : C → ClockView) : Type 0 where
  pub text : List ℕ
  pub first : F
  pub last : F
  pub now : Contents
  pub records : RecordsAll seen view asked text first last
  pub are_seen : AreAllSeen (view first) (view last) now
