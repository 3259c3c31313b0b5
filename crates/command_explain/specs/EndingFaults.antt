-- The numbers and the names of the faults that end a session, or for which a datagram is refused.
use Rattle.std.specs.Prelude.{ℕ, List}
use Rattle.ipfix_session.specs.Faults as session
use Rattle.recording_files.specs.Faults as recordings
use Rattle.recording_files.specs.declared.record_fault.RecordFault.TheVariants as faults
use Rattle.command_explain.specs.declared.ending_fault.EndingFault.{EndingFault}
use Rattle.command_explain.specs.declared.ending_fault.EndingFault.TheVariants.{Session, NotWritten}

abbrev pub number_of : EndingFault → ℕ
number_of (Session fault) = session.number_of fault
number_of NotWritten = recordings.number_of faults.NotWritten

abbrev pub name_of : EndingFault → List ℕ
name_of (Session fault) = session.name_of fault
name_of NotWritten = recordings.name_of faults.NotWritten
