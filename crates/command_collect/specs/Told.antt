-- What a run tells on standard error.
use Rattle.std.specs.Prelude.{◌⊎◌, ℕ, List, ◌++◌, codes, Option, option_map}
use Rattle.std.specs.declared.net.socket_addr.SocketAddr.{SocketAddr}
use Rattle.flow_estimates.specs.declared.report.SamplingReport.{SamplingReport}
use Rattle.flow_table.specs.declared.table.Table.{Table}
use Rattle.flow_times.specs.declared.notes.TimesReport.{TimesReport}
use Rattle.flow_export.specs.declared.fault.ExportFault.{ExportFault}
use Rattle.report_writing.specs.OpeningLines.{not_had_lines}
use Rattle.output_tables.specs.ExportFaultLines.{export_fault_line}
use Rattle.report_sampling.specs.SamplingLines.{sampling_told}
use Rattle.report_times.specs.TimesLines.{times_told}
use Rattle.report_sessions.specs.EndedSessions.{EndedSession}
use Rattle.report_sessions.specs.MissingLines.{missing_told}
use Rattle.report_sessions.specs.ReportLines.{tally_line_with}
use Rattle.report_sessions.specs.ToldLines.{told_lines}
use Rattle.report_writing.specs.declared.origin.Origin.{Origin}
use Rattle.report_writing.specs.declared.reason.Reason.{Reason}
use Rattle.report_writing.specs.declared.verbosity.Verbosity.{Verbosity}
use Rattle.command_collect.specs.declared.gathered.Gathered.{Gathered}
use Rattle.command_collect.specs.declared.job.CollectJob.{CollectJob}
use Rattle.input_sources.specs.Had.{IsReasonOf}
use Rattle.input_sources.specs.InputsTold.{opened_lines, StopsAt, TellsPeers}

-- how many records were left out, where the job has a filter
abbrev pub if_filtered : CollectJob → ℕ → Option ℕ
if_filtered job filtered = option_map (λ filter. filtered) job.filter

-- what is told of a table: how many records there were of each class, how many were left out, and what the others lack, by its
-- name under files
abbrev pub table_told : CollectJob → Table → ℕ → List ℕ
table_told job table filtered = tally_line_with (if_filtered job filtered) table.tally ++ missing_told job.verbosity job.elements.now job.plan.now table.missing

-- what is told after the sessions: at which rates their records are sampled, by which elements they say times, and then what is
-- told of their table
abbrev pub counts_told : CollectJob → List Origin → List SamplingReport → List TimesReport → Table → ℕ → List ℕ
counts_told job origins samplings times table filtered =
    sampling_told job.verbosity origins samplings ++ (times_told job.times origins times ++ table_told job table filtered)

-- the same of what was gathered
abbrev pub gathered_counts : {S : Type 0} → CollectJob → List Origin → Gathered S → List ℕ
gathered_counts job origins g = counts_told job origins g.sampling.items g.times.items g.run.table g.filtered

-- the sessions, in order, and then these lines of their counts
abbrev pub run_lines : CollectJob → List Origin → List ℕ → List EndedSession → List ℕ
run_lines job origins counts ended = told_lines job.verbosity job.elements.now origins ended ++ counts

-- after the first lines each session is told when it is had, with its origin; and after these what the last fact says
pub record TellsBehind (AreOrigins : List Origin → Type 0) (verbosity : Verbosity) (first : List ℕ) (AreTold : List ℕ → Type 0) (Tells : List Origin → (List ℕ → Type 0) → Type 0) : Type 0 where
  pub origins : List Origin
  pub are_origins : AreOrigins origins
  pub told : Tells origins (λ lines. AreTold (first ++ (opened_lines verbosity origins ++ lines)))

-- and then that it can't be had, and why
pub record TellsNotOpened (HasSize : List ℕ → Option ℕ → Type 0) (Refuses : List ℕ → Reason → Type 0) (names : List (List ℕ)) (verbosity : Verbosity) (AreTold : List ℕ → Type 0) : Type 0 where
  pub name : List ℕ
  pub reason : Reason
  pub refused : IsReasonOf (Refuses name) reason
  pub stops : StopsAt HasSize names verbosity (λ lines. AreTold (lines ++ not_had_lines verbosity (codes "open") name reason)) name

-- after the first lines each connection that was accepted was told, and then that there is none at this address, and why
pub record TellsNotAccepted {S : Type 0} (IsOf : S → SocketAddr → Type 0) (Refuses : Reason → Type 0) (verbosity : Verbosity) (first address : List ℕ) (AreTold : List ℕ → Type 0) : Type 0 where
  pub reason : Reason
  pub refused : IsReasonOf Refuses reason
  pub stops : TellsPeers IsOf verbosity (λ lines. AreTold (first ++ (lines ++ not_had_lines verbosity (codes "listen") address reason)))

-- a run that failed tells why nothing was collected, in these lines, and then nothing was written; or why the table of what was
-- collected wasn't written
abbrev pub TellsFault : {F : Type 0} → Type 0 → (F → Type 0) → (F → List ℕ) → (ExportFault → Type 0) → (List ℕ → Type 0) → Type 0
TellsFault {F = F} IsUntouched IsCollectFault lines_of IsExportFault AreTold =
    ((fault : F) × IsCollectFault fault × IsUntouched × AreTold (lines_of fault))
    ⊎ ((fault : ExportFault) × IsExportFault fault × AreTold (export_fault_line fault))
