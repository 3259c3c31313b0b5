-- What laws say of each run: what it was given, and what it answered.
use Rattle.std.specs.Prelude.{◌≡◌, ℕ, List, length}
use Rattle.ipfix_message.specs.declared.record.DataRecord.{DataRecord}
use Rattle.ipfix_session.specs.Ledger.{capped}
use Rattle.ipfix_session.specs.Sources.{SourceView}
use Rattle.ipfix_session.specs.declared.report.SessionReport.{SessionReport}
use Rattle.flow_table.specs.Plans.{PlanValue}
use Rattle.flow_table.specs.SameTables.{IsSameTable}
use Rattle.flow_table.specs.declared.table.Table.{Table}
use Rattle.flow_collect.specs.Headline.{Answer, Headline, SerialAnswer, SerialHeadline}
use Rattle.flow_collect.specs.InFull.{FullAnswer, FullHeadline}
use Rattle.flow_collect.specs.Texts.{ReadsInThreads, ReadsOctets, ReadsTexts}
use Rattle.flow_collect.specs.declared.collected.Pool.{Pool}
use Rattle.flow_collect.specs.declared.session_context.InContext.{InContext}

-- the report counts these records
abbrev pub Delivers : SessionReport → List DataRecord → Type 0
Delivers report records = report.delivered ≡ capped (length records)

module _ {S : Type 0} (seen : S → SourceView) where
  -- of each run without links: its sources, what it answered, and the records that its sessions got
  abbrev pub ForSerials : (List S → SerialAnswer S → List (List DataRecord) → Type 0) → Type 0
  ForSerials P = (sources : List S) (plan : PlanValue) (s : SerialAnswer S) → (h : SerialHeadline seen sources plan s) → P sources s h.records

  -- of each run in threads: its sources, its plan, and what it answered
  abbrev pub ForRuns : (List S → PlanValue → Answer S → Type 0) → Type 0
  ForRuns P = (sources : List S) (plan : PlanValue) (pool : Pool) (c : Answer S) → Headline seen sources plan pool c → P sources plan c

  -- of each run in full: its sources, what it answered, and the records that its workers got
  abbrev pub ForFullRuns : (List (InContext S) → FullAnswer S → List (List DataRecord) → Type 0) → Type 0
  ForFullRuns P = (sources : List (InContext S)) (plan : PlanValue) (pool : Pool) (c : FullAnswer S) → (h : FullHeadline seen sources plan pool c) → P sources c h.records

  -- of each run of whole texts without a fault: its plan, the texts, and its table
  abbrev pub ForTextRuns : (PlanValue → List (List ℕ) → Table → Type 0) → Type 0
  ForTextRuns P = (sources : List S) (plan : PlanValue) (texts : List (List ℕ)) (s : SerialAnswer S) → ReadsTexts seen sources plan texts s → P plan texts s.table

  -- a table that a run on one thread made of these octets, in no session of which memory ran out
  pub record MakesTable (plan : PlanValue) (gave : List (List ℕ)) (table : Table) : Type 0 where
    pub sources : List S
    pub answer : SerialAnswer S
    pub reads : ReadsOctets seen sources plan gave answer
    pub table_is : table ≡ answer.table

  -- and one that a run in threads made
  pub record MakesTableInThreads (plan : PlanValue) (gave : List (List ℕ)) (table : Table) : Type 0 where
    pub sources : List S
    pub answer : Answer S
    pub reads : ReadsInThreads seen sources plan gave answer
    pub table_is : table ≡ answer.table

-- under a plan both make the same table of the same octets
abbrev pub MakeSameTable : (Makes MakesToo : PlanValue → List (List ℕ) → Table → Type 0) → Type 0
MakeSameTable Makes MakesToo = (plan : PlanValue) (gave : List (List ℕ)) (a b : Table) → Makes plan gave a → MakesToo plan gave b → IsSameTable a b
