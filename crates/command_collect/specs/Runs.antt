-- What a run of collecting wrote, and when its status says that all was well.
use Rattle.std.specs.Prelude.{◌≡◌, ◌≢◌, ◌⊎◌, ◌↔◌, ℕ, Bool, true, false, List, [], ◌++◌, All, IfSome, IfNone, Option, is_some, length, map}
use Rattle.std.specs.List.{AllZip}
use Rattle.std.specs.declared.io.ErrorKind.{ErrorKind}
use Rattle.ipfix_message.specs.declared.record.DataRecord.{DataRecord}
use Rattle.ipfix_session.specs.Given.{records_of, stop_of, IsPrefix}
use Rattle.ipfix_session.specs.Ledger.{capped}
use Rattle.ipfix_session.specs.Sources.{SourceView}
use Rattle.ipfix_session.specs.declared.report.FullReport.{FullReport}
use Rattle.ipfix_session.specs.declared.report.SessionReport.{SessionReport}
use Rattle.ipfix_session.specs.declared.stop.Stop.TheVariants.{Clean}
use Rattle.report_writing.specs.Statuses.{number_of}
use Rattle.report_writing.specs.declared.origin.Origin.{Origin}
use Rattle.report_writing.specs.declared.status.Status.TheVariants.{Well, SessionFault, Failed}
use Rattle.flow_estimates.specs.declared.report.SamplingReport.{SamplingReport}
use Rattle.report_sampling.specs.SpotlessSampling.{IsSamplingSpotless}
use Rattle.report_sessions.specs.EndedSessions.{TellsEnded}
use Rattle.report_sessions.specs.ReportLines.{report_lines, tally_line}
use Rattle.report_sessions.specs.Spotless.{IsSpotless}
use Rattle.flow_table.specs.AddedUp.{rows_in}
use Rattle.flow_table.specs.Plans.{PlanValue}
use Rattle.flow_table.specs.declared.table.Table.{Table}
use Rattle.flow_collect.specs.Contexts.{records_in_context, sources_of}
use Rattle.flow_collect.specs.Failures.{TellsLarge}
use Rattle.flow_collect.specs.Headline.{IsAddedUp, IsGivenBy, SerialAnswer, all_of}
use Rattle.flow_collect.specs.InFull.{FullSerialAnswer, FullSerialHeadline, IsGivenInContext, fulls_in}
use Rattle.flow_collect.specs.Refusals.{AreTooLarge, AreTooLargeInContext, IsLate, IsLateInContext, IsRefused}
use Rattle.flow_collect.specs.Texts.{AreTexts, HasNoFault}
use Rattle.flow_collect.specs.declared.collected.FilteredReport.{FilteredReport}
use Rattle.flow_collect.specs.declared.collected.Serial.{Serial}
use Rattle.flow_collect.specs.declared.failure.CollectFailure.{CollectFailure}
use Rattle.flow_collect.specs.declared.fault.CollectFault.{CollectFault}
use Rattle.flow_collect.specs.declared.session_context.InContext.{InContext}
use Rattle.flow_collect.specs.declared.fault.CollectFault.TheVariants.{SumTooLarge, Sampled}
use Rattle.flow_export.specs.declared.fault.ExportFault.{ExportFault}
use Rattle.input_sources.specs.Had.{IsUnread}
use Rattle.output_tables.specs.TableTexts.{IsNotWritten, Writes}
use Rattle.output_tables.specs.declared.output.Output.{Output}
use Rattle.command_collect.specs.CollectLines.{collect_fault_line}
use Rattle.command_collect.specs.Engines.{due_fault, CollectsBy}
use Rattle.command_collect.specs.Exporters.{in_context}
use Rattle.command_collect.specs.Gathered.{all_filtered, IsGathered, samplings_in, times_of_each}
use Rattle.command_collect.specs.Large.{failure_lines}
use Rattle.command_collect.specs.Told.{counts_told, run_lines, TellsFault}
use Rattle.command_collect.specs.declared.engine.Engine.{Engine}
use Rattle.command_collect.specs.declared.gathered.Gathered.{Gathered}
use Rattle.command_collect.specs.declared.job.CollectJob.{CollectJob}

-- all was well: no session has a fault,
abbrev pub HaveNoFault : List SessionReport → Table → Type 0
HaveNoFault reports table = All HasNoFault reports

-- and if the run is strict, nothing shows that anything which was sent isn't in the table, nor that what it counts is a part of
-- what was sent: that flows are sampled which are not scaled, or lack the rate that their domain has
abbrev pub WentWell : Bool → Bool → List FullReport → List SamplingReport → Table → Type 0
WentWell true is_scaled fulls samplings table = IsSpotless fulls table.tally table.missing × IsSamplingSpotless is_scaled samplings
WentWell false is_scaled fulls samplings table = All (λ (full : FullReport). HasNoFault full.report) fulls

-- of a job's sessions, as it is strict or not, and scales or not
abbrev pub JobWentWell : CollectJob → List FullReport → List SamplingReport → Table → Type 0
JobWentWell job fulls samplings table = WentWell job.verbosity.strict (is_some job.estimates) fulls samplings table

-- and of what was gathered
abbrev pub GatheredWell : {S : Type 0} → CollectJob → Gathered S → Type 0
GatheredWell job g = JobWentWell job g.run.sessions.items g.sampling.items g.run.table

-- the same of reports that tell how many records were left out, which does not matter
abbrev pub EndedWell : Bool → Bool → List FilteredReport → Table → Type 0
EndedWell strict is_scaled reports table = WentWell strict is_scaled (fulls_in reports) (samplings_in reports) table

-- which texts sources hold, and the records of each of these
pub record TextsOf (A : Type 0) : Type 1 where
  pub are_texts : List A → List (List ℕ) → Type 0
  pub records : List A → List (List ℕ) → List (List DataRecord)

-- those of RFC 7011,
abbrev pub plain_texts : {S : Type 0} → (S → SourceView) → TextsOf S
plain_texts seen = record { are_texts = AreTexts seen; records = λ sources texts. map records_of texts }

-- and the same with what sessions know, of the records that count
abbrev pub texts_in_context : {S : Type 0} → (S → SourceView) → TextsOf (InContext S)
texts_in_context seen = record { are_texts = λ sources texts. AreTexts seen (sources_of sources) texts; records = records_in_context }

-- each of these texts ends with a whole message, and the table is that of all these records
pub record IsOfWhole (plan : PlanValue) (table : Table) (texts : List (List ℕ)) (records : List (List DataRecord)) : Type 0 where
  pub whole : All (λ t. stop_of t ≡ Clean) texts
  pub added_up : IsAddedUp plan (all_of records) table

module _ {A : Type 0} (held : TextsOf A) where
  -- the table is that of the sources' whole texts, if they tell them
  abbrev pub AddsUpWhole : List A → PlanValue → Table → Type 0
  AddsUpWhole sources plan table = (texts : List (List ℕ)) → held.are_texts sources texts → IsOfWhole plan table texts (held.records sources texts)

  -- by what a worker gets, as in the headline
  module _ {S R : Type 0} (Gets : A → S → R → List DataRecord → Type 0) where
    -- what was collected ended as the last fact says it; the status says that all was well exactly if it was
    pub record WritesTable (IsWell : List R → Table → Type 0) (plan : PlanValue) (engine : Engine) (status : ℕ) (Ends : Serial S R Table → Type 0) (sources : List A) : Type 0 where
      -- what the headline says
      pub collected : Serial S R Table
      pub collects : CollectsBy engine Gets sources plan collected
      -- the records of each session are the first of those that its source's whole text gives
      pub first : (texts : List (List ℕ)) → held.are_texts sources texts → AllZip IsPrefix collects.headline.records (held.records sources texts)
      pub status_is : (status ≡ number_of Well) ↔ IsWell collected.sessions.items collected.table
      -- then the table is that of the whole texts
      pub whole : status ≡ number_of Well → AddsUpWhole sources plan collected.table
      pub ends : Ends collected

    -- all was collected, and the table that it gave wasn't written for this reason
    pub record IsNotExported (plan : PlanValue) (engine : Engine) (output : Output) (IsUntouched : Type 0) (sources : List A) (fault : ExportFault) : Type 0 where
      pub collected : Serial S R Table
      pub collects : CollectsBy engine Gets sources plan collected
      pub not_written : IsNotWritten output (length (rows_in collected.table)) IsUntouched fault

-- nothing may be collected from so many sources for this reason: it is the fault that the arguments have, if they have one;
-- else one that comes late, and only if the records of the sources' whole texts are too large that a sum is
pub record IsCollectFault (count : ℕ) (TooLarge : Type 0) (engine : Engine) (fault : CollectFault) : Type 0 where
  pub arguments : IfSome (due_fault engine count) (λ due. fault ≡ due)
  pub others : IfNone (due_fault engine count) (IsLate fault)
  pub too_large : fault ≡ SumTooLarge → TooLarge

-- and of a job, where sampled records may be refused: only if sessions tell of one
pub record IsJobFault (count : ℕ) (TooLarge AreSampled : Type 0) (engine : Engine) (fault : CollectFault) : Type 0 where
  pub arguments : IfSome (due_fault engine count) (λ due. fault ≡ due)
  pub others : IfNone (due_fault engine count) (IsLateInContext fault)
  pub too_large : fault ≡ SumTooLarge → TooLarge
  pub sampled : fault ≡ Sampled → AreSampled

-- by what its sessions know
abbrev pub IsFaultBy : {S : Type 0} → (S → SourceView) → ℕ → Engine → List (InContext S) → PlanValue → CollectFault → Type 0
IsFaultBy seen count engine given plan fault = IsJobFault count (AreTooLargeInContext seen plan given) (IsRefused seen given) engine fault

-- and where a sum is too large
pub record IsFailureBy {S : Type 0} (seen : S → SourceView) (count : ℕ) (engine : Engine) (given : List (InContext S)) (plan : PlanValue) (failure : CollectFailure) : Type 0 where
  pub fault_is : IsFaultBy seen count engine given plan failure.fault
  -- a row and a session stand only beside that fault: the row is too large of the records that sessions gave, and the session is
  -- the first that tells of a great counter
  pub names : TellsLarge seen plan given failure

module _ {S : Type 0} (seen : S → SourceView) where
  -- sources were had as the first fact says it, none of which was read before, and they were run as the last one says it
  pub record RunsSources (AreHad RunsThem : List S → Type 0) : Type 0 where
    pub sources : List S
    pub had : AreHad sources
    pub unread : All (IsUnread seen) sources
    pub runs : RunsThem sources

-- what the status of a run says of so many sources
pub record Runs (engine : Engine) (count status : ℕ) (IsUntouched WritesIt TellsFailed : Type 0) (AreTold : List ℕ → Type 0) : Type 0 where
  pub statuses : (status ≡ number_of Well) ⊎ (status ≡ number_of SessionFault) ⊎ (status ≡ number_of Failed)
  pub table : status ≢ number_of Failed → WritesIt
  -- the line of a fault alone was told, which is the one that there was
  pub failed : status ≡ number_of Failed → TellsFailed
  -- nothing was collected if the arguments have a fault, and that is reported
  pub refused : IfSome (due_fault engine count) (λ fault. (status ≡ number_of Failed) × IsUntouched × AreTold (collect_fault_line fault))

-- what was gathered of a run adds up the whole texts of its sources, if the run went well
abbrev pub AddsUpIfWell : {S : Type 0} → (S → SourceView) → CollectJob → Gathered S → FullSerialAnswer S → Type 0
AddsUpIfWell {S = S} seen job g c =
    IsGathered c g → (sources : List (InContext S)) (plan : PlanValue) → FullSerialHeadline seen sources plan c → GatheredWell job g
    → AddsUpWhole (texts_in_context seen) sources plan c.table

-- the table was written to a writer, and nothing else; the lines of the sessions and of the table's counts were told, and
-- nothing else
module _ {W : Type 0} (contents : W → Option (List ℕ)) (old new : W) (AreTold : List ℕ → Type 0) where
  abbrev pub WritesAndTells : {S : Type 0} → PlanValue → Output → SerialAnswer S → Type 0
  WritesAndTells plan output c =
      Writes [] plan output (contents old) (contents new) c.table × AreTold (report_lines c.sessions.items ++ tally_line c.table.tally)

  -- how a run ended that has no options,
  abbrev pub RunsPlainly : {S : Type 0} → (S → SourceView) → List S → PlanValue → Engine → Output → ℕ → Type 0
  RunsPlainly seen sources plan engine output status =
      Runs engine (length sources) status (new ≡ old)
      (WritesTable (plain_texts seen) (IsGivenBy seen) HaveNoFault plan engine status (WritesAndTells plan output) sources)
      (TellsFault (new ≡ old) (IsCollectFault (length sources) (AreTooLarge seen plan sources) engine) collect_fault_line (IsNotExported (plain_texts seen) (IsGivenBy seen) plan engine output (new ≡ old) sources) AreTold) AreTold

  -- the table was written by the names that elements have under the files of a job; the sessions were told in full, each with
  -- the reason that its own source answered, and nothing else
  abbrev pub WritesAndTellsJob : {S : Type 0} → (S → Option ErrorKind) → CollectJob → List Origin → FullSerialAnswer S → Type 0
  WritesAndTellsJob failure job origins c =
      Writes job.elements.now job.plan.now job.output (contents old) (contents new) c.table
      × TellsEnded failure c.sources.items (fulls_in c.sessions.items) (run_lines job origins (counts_told job origins (samplings_in c.sessions.items) (times_of_each c.sessions.items) c.table (capped (all_filtered c.sessions.items)))) AreTold

  -- and how one ended with a job, of sources with what their sessions know by their origins, as far as the job wants it
  abbrev pub RunsJob : {S : Type 0} → (S → SourceView) → (S → Option ErrorKind) → List S → CollectJob → List Origin → ℕ → Type 0
  RunsJob seen failure sources job origins status =
      let given = in_context job sources origins in
      Runs job.engine (length sources) status (new ≡ old)
      (WritesTable (texts_in_context seen) (IsGivenInContext seen) (EndedWell job.verbosity.strict (is_some job.estimates)) job.plan.now job.engine status (WritesAndTellsJob failure job origins) given)
      (TellsFault (new ≡ old) (IsFailureBy seen (length sources) job.engine given job.plan.now) (failure_lines job.verbosity job.plan.now origins) (IsNotExported (texts_in_context seen) (IsGivenInContext seen) job.plan.now job.engine job.output (new ≡ old) given) AreTold) AreTold
