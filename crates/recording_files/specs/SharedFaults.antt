-- The faults of a recording that sessions have, too.
use Rattle.std.specs.Prelude.{◌≡◌, ◌≢◌, Some, Err}
use Rattle.ipfix_session.specs.declared.fault.SessionFault.{SessionFault}
use Rattle.recording_files.specs.declared.record_fault.RecordFault.{RecordFault}
use Rattle.recording_files.specs.declared.record_fault.RecordFault.TheVariants.{NotWritten}
use Rattle.recording_files.specs.Sessions.{fault_of}

pub record SharedFault : Type 0 where
  pub fault : RecordFault
  pub session : SessionFault
  pub is_shared : fault ≢ NotWritten
  pub same : fault_of (Err fault) ≡ Some session
