-- How a dump ended.
use Rattle.std.specs.Prelude.{◌≡◌, ◌≢◌, ◌⊎◌, ◌↔◌, ℕ, Bool, true, false, List, [], ◌++◌, codes, map, Option, None}
use Rattle.std.specs.Borrow.{Bor}
use Rattle.std.specs.Io.KnownBytes.{Appends}
use Rattle.std.specs.declared.io.ErrorKind.{ErrorKind}
use Rattle.ipfix_message.specs.declared.record.DataRecord.{DataRecord}
use Rattle.ipfix_session.specs.Sources.{SourceView}
use Rattle.ipfix_session.specs.declared.report.FullReport.{FullReport}
use Rattle.report_writing.specs.Statuses.{number_of}
use Rattle.report_writing.specs.declared.reason.Reason.{Reason}
use Rattle.report_writing.specs.declared.status.Status.{Status}
use Rattle.report_writing.specs.declared.status.Status.TheVariants as ends
use Rattle.element_registry.specs.Registries.{Known}
use Rattle.input_files.specs.Loaded.{Loads}
use Rattle.ipfix_dump.specs.Dumped.{DumpsAll, DumpsInFull, line_in}
use Rattle.ipfix_dump.specs.declared.fault.DumpFault.{DumpFault}
use Rattle.command_dump.specs.DumpFaultLines.{dump_fault_line}
use Rattle.command_dump.specs.ElementFiles.{RunsAfterFiles}
use Rattle.command_dump.specs.declared.job.DumpJob.{DumpJob}
use Rattle.report_sessions.specs.EndedSessions.{IsSaidOf}
use Rattle.report_sessions.specs.ReadFailures.{read_reason, unread_lines}
use Rattle.report_sessions.specs.Spotless.{IsSpotlessSession}
use Rattle.report_sessions.specs.ToldLines.{told_session}

-- a session ended well: it has no fault, and if the dump is strict, nothing shows that anything which was sent wasn't dumped
abbrev pub EndedWell : Bool → FullReport → Type 0
EndedWell true full = IsSpotlessSession full
EndedWell false full = full.report.fault ≡ None

-- a dump that failed tells its fault
abbrev pub TellsDumpFault : (List ℕ → Type 0) → Type 0
TellsDumpFault AreTold = (fault : DumpFault) × AreTold (dump_fault_line fault)

-- the lines of a session that was dumped, and why standard input could not be read on, if that is known
abbrev pub dump_lines : DumpJob → List Known → Option Reason → FullReport → List ℕ
dump_lines job known reason full =
    told_session job.verbosity known 1 job.origin None full ++ unread_lines job.verbosity (codes "standard input") reason

-- they are told, with the reason that the system answered to the source, or none
pub record TellsDump (answered : Option ErrorKind) (job : DumpJob) (known : List Known) (full : FullReport) (AreTold : List ℕ → Type 0) : Type 0 where
  pub said : Option ErrorKind
  pub is_said : IsSaidOf answered said
  pub told : AreTold (dump_lines job known (read_reason full.report.fault said) full)

-- by the line of a record, of a session whose templates may count so much, or anything
module _ {S : Type 0} (line_of : DataRecord → List ℕ) (templates : Option ℕ) (seen : S → SourceView) (before after : S) (old new : Option (List ℕ)) (status : ℕ) (strict : Bool) where
  -- the lines of a source's records were written; its session was told as the last fact says it; and the status says that
  -- all was well exactly if it was
  pub record DumpsToEnd (IsTold : FullReport → Type 0) : Type 0 where
    pub full : FullReport
    pub dumps : DumpsInFull line_of templates seen before after old new full
    pub told : IsTold full
    pub status_is : (status ≡ number_of ends.Well) ↔ EndedWell strict full

  -- what the status of a dump says, where a session is told so
  pub record RunsDump (Tells : FullReport → (List ℕ → Type 0) → Type 0) (AreTold : List ℕ → Type 0) : Type 0 where
    pub statuses : (status ≡ number_of ends.Well) ⊎ (status ≡ number_of ends.SessionFault) ⊎ (status ≡ number_of ends.Failed)
    -- if a source tells its octets, the lines of all its records were written
    pub all : status ≡ number_of ends.Well → DumpsAll line_of (seen before).text old new
    pub dumped : status ≢ number_of ends.Failed → DumpsToEnd (λ full. Tells full AreTold)
    -- only the line of a fault was told
    pub failed : status ≡ number_of ends.Failed → TellsDumpFault AreTold

-- with a job
module _ {S W : Type 0} (seen : S → SourceView) (failure : S → Option ErrorKind) (before after : S) (contents : W → Option (List ℕ)) (old new : W) (job : DumpJob) where
  -- by the names and kinds that elements have under files
  abbrev pub DumpsFor : ℕ → List Known → (List ℕ → Type 0) → Type 0
  DumpsFor status known AreTold =
      RunsDump (line_in job.form known) job.templates seen before after (contents old) (contents new) status job.verbosity.strict (TellsDump (failure after) job known) AreTold

  -- after its files of elements, of which these have texts so, and those can't be read for such reasons
  abbrev pub RunsDumpWith : {T : Type 0} → (T → List ℕ → List ℕ → Type 0) → (T → List ℕ → Reason → Type 0) → T → (List ℕ → Type 0) → Status → Type 0
  RunsDumpWith has refuses files AreTold status =
      RunsAfterFiles (Loads (has files) (refuses files) job.verbosity [] (map (λ (path : Bor (List ℕ)). path.now) job.element_files.now)) (DumpsFor (number_of status)) ((after ≡ before) × Appends (contents old) (contents new) []) AreTold
      status
