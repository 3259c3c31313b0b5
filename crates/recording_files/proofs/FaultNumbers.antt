-- The numbers and the names of the faults of a recording.
use Rattle.std.proofs.Common.{◌≡◌, Option, Some, Err, refl, ap, arith}
use Rattle.std.specs.Prelude.{◌≢◌}
use Rattle.ipfix_message.specs.Faults as messages
use Rattle.ipfix_message.specs.declared.fault.MessageFault.{MessageFault}
use Rattle.ipfix_message.specs.declared.fault.MessageFault.TheVariants as variants
use Rattle.ipfix_session.specs.Faults as sessions
use Rattle.ipfix_session.specs.declared.fault.SessionFault.{SessionFault}
use Rattle.ipfix_session.specs.declared.fault.SessionFault.TheVariants as faults
use Rattle.recording_files.specs.declared.record_fault.RecordFault.{RecordFault}
use Rattle.recording_files.specs.declared.record_fault.RecordFault.TheVariants.{Message, Truncated, ReadFailed, TooManyReads, NotWritten}
use Rattle.recording_files.specs.Faults.{number_of, name_of}
use Rattle.recording_files.specs.Sessions.{fault_of}

abbrev some : SessionFault → Option SessionFault
some f = Some f

-- they are those of the fault that it is of a session
same_as : (session f : SessionFault) → some session ≡ some f → (sessions.number_of session ≡ sessions.number_of f) × (sessions.name_of session ≡ sessions.name_of f)
same_as session f e = let same : session ≡ f = cc in (ap sessions.number_of same, ap sessions.name_of same)

pub same_number : (fault : RecordFault) (session : SessionFault) → fault ≢ NotWritten → fault_of (Err fault) ≡ Some session
    → (number_of fault ≡ sessions.number_of session) × (name_of fault ≡ sessions.name_of session)
same_number (Message e) session other is = same_as (faults.Message e) session is
same_number Truncated session other is = same_as faults.Truncated session is
same_number ReadFailed session other is = same_as faults.ReadFailed session is
same_number TooManyReads session other is = same_as faults.TooManyReads session is
same_number NotWritten session other is = absurd (other refl)

not_19 : (e : MessageFault) → messages.number_of e ≡ 19 → ⊥
not_19 variants.Version is = absurd (omega (arith, is))
not_19 variants.MessageLength is = absurd (omega (arith, is))
not_19 variants.SetHeader is = absurd (omega (arith, is))
not_19 variants.SetLength is = absurd (omega (arith, is))
not_19 variants.TemplateId is = absurd (omega (arith, is))
not_19 variants.TemplateCut is = absurd (omega (arith, is))
not_19 variants.Scope is = absurd (omega (arith, is))
not_19 variants.ZeroLength is = absurd (omega (arith, is))
not_19 variants.TemplateChanged is = absurd (omega (arith, is))
not_19 variants.RecordCut is = absurd (omega (arith, is))
not_19 variants.TooManyDomains is = absurd (omega (arith, is))
not_19 variants.OutOfMemory is = absurd (omega (arith, is))
not_19 variants.Spent is = absurd (omega (arith, is))
not_19 variants.TooManyFields is = absurd (omega (arith, is))

pub only_not_written : (fault : RecordFault) → number_of fault ≡ 19 → fault ≡ NotWritten
only_not_written NotWritten is = refl
only_not_written (Message e) is = absurd (not_19 e is)
only_not_written Truncated is = absurd (omega (arith, is))
only_not_written ReadFailed is = absurd (omega (arith, is))
only_not_written TooManyReads is = absurd (omega (arith, is))
