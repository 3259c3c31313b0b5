-- What collects, and what the headline says by it.
use Rattle.std.specs.Prelude.{ℕ, List, Option, Result, vec_len}
use Rattle.std.specs.List.{AllZip}
use Rattle.std.specs.declared.vec.Vec.{Vec}
use Rattle.std.specs.declared.alloc.Global.{Global}
use Rattle.ipfix_message.specs.declared.record.DataRecord.{DataRecord}
use Rattle.ipfix_session.specs.Sources.{SourceView}
use Rattle.flow_link.specs.declared.settled.Settled.{Settled}
use Rattle.flow_table.specs.Plans.{PlanValue}
use Rattle.flow_table.specs.declared.table.Table.{Table}
use Rattle.flow_collect.specs.Failures.{fault_in}
use Rattle.flow_collect.specs.Headline.{IsReceived, SerialHeadlineWith}
use Rattle.flow_collect.specs.InFull.{FullSerialAnswer, IsGivenInContext}
use Rattle.flow_collect.specs.Refusals.{AreTooLargeInContext, HasFaultsOrSampled, IsRefused, fault_of_arguments, fault_of_lots}
use Rattle.flow_collect.specs.declared.collected.Serial.{Serial}
use Rattle.flow_collect.specs.declared.failure.CollectFailure.{CollectFailure}
use Rattle.flow_collect.specs.declared.fault.CollectFault.{CollectFault}
use Rattle.flow_collect.specs.declared.session_context.InContext.{InContext}
use Rattle.command_collect.specs.declared.engine.Engine.{Engine}
use Rattle.command_collect.specs.declared.engine.Engine.TheVariants.{Links, Lots}

-- the first fault that it has with so many sources
abbrev pub due_fault : Engine → ℕ → Option CollectFault
due_fault (Links pool) sources = fault_of_arguments pool sources
due_fault (Lots lots) sources = fault_of_lots lots sources

-- and the one that it has with however many
abbrev pub fault_of_engine : Engine → Option CollectFault
fault_of_engine engine = due_fault engine 1

-- where there are links, the workers received exactly these records over them
abbrev pub CameOver : Engine → List (List DataRecord) → Type 0
CameOver (Links pool) records = (links : List Settled) × AllZip (IsReceived pool.capacity) links records
CameOver (Lots lots) records = Unit {0}

-- the headline, and over links what was received
pub record CollectsBy {A S R : Type 0} (engine : Engine) (Gets : A → S → R → List DataRecord → Type 0) (sources : List A) (plan : PlanValue) (s : Serial S R Table) : Type 0 where
  pub headline : SerialHeadlineWith Gets sources plan s
  pub came : CameOver engine headline.records

-- the same of sources whose sessions know something
abbrev pub CollectsInContext : {S : Type 0} → (S → SourceView) → Engine → List (InContext S) → PlanValue → FullSerialAnswer S → Type 0
CollectsInContext seen engine given plan s = CollectsBy engine (IsGivenInContext seen) given plan s

-- the faults of a run with so many sources
abbrev pub HasFaultsBy : {S X : Type 0} → (S → SourceView) → Engine → List (InContext S) → PlanValue → ℕ → Result X CollectFault → Type 0
HasFaultsBy seen engine sources plan many result = HasFaultsOrSampled (due_fault engine many) (AreTooLargeInContext seen plan sources) (IsRefused seen sources) result

-- those of a run with just these sources
abbrev pub HasEngineFaults : {S X : Type 0} → (S → SourceView) → Engine → Vec (InContext S) Global → PlanValue → Result X CollectFailure → Type 0
HasEngineFaults seen engine sources plan result = HasFaultsBy seen engine sources.items plan (vec_len sources) (fault_in result)
