-- What a job gives of these sources and origins: what it gathers, its faults, and the text of its table.
use Rattle.std.specs.Prelude.{ℕ, List, Result, vec_len}
use Rattle.std.specs.declared.vec.Vec.{Vec}
use Rattle.std.specs.declared.alloc.Global.{Global}
use Rattle.ipfix_session.specs.Sources.{SourceView}
use Rattle.flow_table.specs.declared.table.Table.{Table}
use Rattle.flow_collect.specs.Failures.{TellsLarge, fault_in}
use Rattle.flow_collect.specs.InFull.{IsGivenInContext}
use Rattle.flow_collect.specs.declared.failure.CollectFailure.{CollectFailure}
use Rattle.output_tables.specs.TableTexts.{export_text}
use Rattle.report_writing.specs.declared.origin.Origin.{Origin}
use Rattle.command_collect.specs.Engines.{HasFaultsBy}
use Rattle.command_collect.specs.Exporters.{in_context}
use Rattle.command_collect.specs.Gathered.{GathersBy}
use Rattle.command_collect.specs.declared.gathered.Gathered.{Gathered}
use Rattle.command_collect.specs.declared.job.CollectJob.{CollectJob}

-- the text of a table, by the names that elements have under the job's files
abbrev pub job_text : CollectJob → Table → List ℕ
job_text job table = export_text job.elements.now job.output job.plan.now table

module _ {S : Type 0} (seen : S → SourceView) (job : CollectJob) where
  -- what the headline says of what was gathered
  abbrev pub GathersJob : List S → List Origin → Gathered S → Type 0
  GathersJob sources origins gathered = GathersBy job.engine (IsGivenInContext seen) (in_context job sources origins) job.plan.now gathered

  -- which fault there is
  abbrev pub HasJobFaults : {X : Type 0} → Vec S Global → List Origin → Result X CollectFailure → Type 0
  HasJobFaults sources origins result =
      HasFaultsBy seen job.engine (in_context job sources.items origins) job.plan.now (vec_len sources) (fault_in result)

  -- and where a sum is too large
  abbrev pub TellsJobLarge : List S → List Origin → CollectFailure → Type 0
  TellsJobLarge sources origins failure = TellsLarge seen job.plan.now (in_context job sources origins) failure
