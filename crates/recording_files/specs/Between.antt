-- What a recording has done between two reads.
use Rattle.std.specs.Prelude.{◌≡◌, All, Bool, ℕ, List, [], ◌++◌, Option, Result, Ok, Err}
use Rattle.ipfix_message.specs.declared.fault.MessageFault.TheVariants.{OutOfMemory}
use Rattle.ipfix_session.specs.declared.stop.Stop.TheVariants.{Fault}
use Rattle.ipfix_session.specs.MessageStream.{cut}
use Rattle.ipfix_session.specs.Buffers.{IsRest}
use Rattle.ipfix_session.specs.Given.{given_within, stop_within, octets_of}
use Rattle.recording_files.specs.declared.gathering.Gathering.{Gathering}
use Rattle.recording_files.specs.declared.record_fault.RecordFault.{RecordFault}
use Rattle.recording_files.specs.declared.record_fault.RecordFault.TheVariants.{Message as OfMessage, Truncated, ReadFailed, TooManyReads, NotWritten}
use Rattle.recording_files.specs.Recordings.{Part, Recorded, Writes}
use Rattle.recording_files.specs.Recorders.{KeepsWithin, Counted}
use Rattle.recording_files.specs.Faithful.{all_messages, all_given}
use Rattle.recording_files.specs.Files.{FilesView}
use Rattle.recording_files.specs.Periods.{finished_at}
use Rattle.recording_files.specs.Sessions.{Progress, HasMessage, files_of, Stands, HoldsBy}

-- the file is finished if the period is over, and it has a message
abbrev pub turned_if : Bool → Progress → Progress
turned_if is_over p = record p { finished = finished_at p.limit is_over p.text p.finished }

-- one more read gave these octets
abbrev pub with_read : List ℕ → Progress → Progress
with_read piece p = record p { text = p.text ++ piece; earlier = p.text }

-- all messages of what was read stand in the files, and are counted; left is what follows them
pub record HasRecorded (p : Progress) (after : FilesView) (g : Gathering) (left : List ℕ) : Type 0 where
  pub finished : List Part
  pub last : Part
  pub are : files_of finished ≡ p.finished
  pub earlier : Recorded [] finished
  pub writes : Writes (all_given finished) [] last.messages last.given last.file
  pub some : All HasMessage finished
  pub keeps : KeepsWithin p.limit g.recorder (all_given finished) last.given
  pub counted : Counted g.counts.told (all_given finished) last.given
  pub stands : Stands p.first.contents after.contents finished last []
  pub not_failed : after.failed ≡ p.first.failed
  pub octets : p.text ≡ octets_of (all_messages finished ++ last.messages) ++ left
  pub is_rest : IsRest left
  pub is : given_within p.limit p.text ≡ record { messages = all_given finished ++ last.given; stop = is_rest.stop }
  pub rest : (cut p.text).rest ≡ left

-- a read has no other fault than that of its messages, want of memory, and that of the files
abbrev pub StopsAt : Option ℕ → RecordFault → List ℕ → Type 0
StopsAt limit (OfMessage OutOfMemory) text = Unit {0}
StopsAt limit (OfMessage e) text = stop_within limit text ≡ Fault e
StopsAt limit NotWritten text = Unit {0}
StopsAt limit Truncated text = ⊥
StopsAt limit ReadFailed text = ⊥
StopsAt limit TooManyReads text = ⊥

-- why it went no further than the last read, and what stands in the files then
abbrev pub StopsRecording : RecordFault → Progress → FilesView → Gathering → Type 0
StopsRecording fault p after g = StopsAt p.limit fault p.text × HoldsBy (Counted g.counts.told) (Err fault) p after

-- what the last read did, by the answer
abbrev pub GoesOn : Result (Unit {0}) RecordFault → Progress → FilesView → Gathering → List ℕ → Type 0
GoesOn (Ok x) p after g left = HasRecorded p after g left
GoesOn (Err fault) p after g left = StopsRecording fault p after g
