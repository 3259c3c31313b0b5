-- The number and the name that reports give for the fault of a recording. Those that sessions have keep theirs.
use Rattle.std.specs.Prelude.{ℕ, List, codes}
use Rattle.ipfix_session.specs.Faults as sessions
use Rattle.ipfix_session.specs.declared.fault.SessionFault.TheVariants as faults
use Rattle.recording_files.specs.declared.record_fault.RecordFault.{RecordFault}
use Rattle.recording_files.specs.declared.record_fault.RecordFault.TheVariants.{Message, Truncated, ReadFailed, TooManyReads, NotWritten}

abbrev pub number_of : RecordFault → ℕ
number_of (Message fault) = sessions.number_of (faults.Message fault)
number_of Truncated = sessions.number_of faults.Truncated
number_of ReadFailed = sessions.number_of faults.ReadFailed
number_of TooManyReads = sessions.number_of faults.TooManyReads
number_of NotWritten = 19

abbrev pub name_of : RecordFault → List ℕ
name_of (Message fault) = sessions.name_of (faults.Message fault)
name_of Truncated = sessions.name_of faults.Truncated
name_of ReadFailed = sessions.name_of faults.ReadFailed
name_of TooManyReads = sessions.name_of faults.TooManyReads
name_of NotWritten = codes "NotWritten"
