-- What was collected, how many records were left out of it, and what sessions tell of sampling and of times.
use Rattle.std.specs.Prelude.{◌≡◌, ℕ, List, map, sum_by}
use Rattle.ipfix_message.specs.declared.record.DataRecord.{DataRecord}
use Rattle.ipfix_session.specs.Ledger.{capped}
use Rattle.flow_estimates.specs.declared.report.SamplingReport.{SamplingReport}
use Rattle.flow_table.specs.Plans.{PlanValue}
use Rattle.flow_times.specs.declared.notes.TimesReport.{TimesReport}
use Rattle.flow_collect.specs.InFull.{FullSerialAnswer, fulls_in}
use Rattle.flow_collect.specs.declared.collected.FilteredReport.{FilteredReport}
use Rattle.command_collect.specs.Engines.{CollectsBy}
use Rattle.command_collect.specs.declared.engine.Engine.{Engine}
use Rattle.command_collect.specs.declared.gathered.Gathered.{Gathered}

-- how many records were left out of all sessions
abbrev pub all_filtered : List FilteredReport → ℕ
all_filtered reports = sum_by (λ (told : FilteredReport). told.filtered) reports

-- what sessions tell of sampling
abbrev pub samplings_in : List FilteredReport → List SamplingReport
samplings_in reports = map (λ (told : FilteredReport). told.sampling) reports

-- and of times
abbrev pub times_of_each : List FilteredReport → List TimesReport
times_of_each reports = map (λ (told : FilteredReport). told.times) reports

-- the same run, with these counts in one, which stops at 2^64 - 1, and with what sessions tell of sampling and of times apart
pub record IsGathered {S : Type 0} (c : FullSerialAnswer S) (g : Gathered S) : Type 0 where
  pub sessions_are : g.run.sessions.items ≡ fulls_in c.sessions.items
  pub sources_are : g.run.sources ≡ c.sources
  pub table_is : g.run.table ≡ c.table
  pub filtered_is : g.filtered ≡ capped (all_filtered c.sessions.items)
  pub sampling_is : g.sampling.items ≡ samplings_in c.sessions.items
  pub times_is : g.times.items ≡ times_of_each c.sessions.items

-- what the headline says of it
pub record GathersBy {A S : Type 0} (engine : Engine) (Gets : A → S → FilteredReport → List DataRecord → Type 0) (sources : List A) (plan : PlanValue) (g : Gathered S) : Type 0 where
  pub collected : FullSerialAnswer S
  pub collects : CollectsBy engine Gets sources plan collected
  pub gathered : IsGathered collected g
