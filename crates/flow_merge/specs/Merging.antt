-- Exports of tables, as they are read, and their rows added up.
use Rattle.std.specs.Prelude.{◌≡◌, ◌≢◌, ℕ, ◌+◌, ◌<◌, List, ◌∷◌, ◌++◌, length, flat_map, All, None, Some, Result, IfErr, IfOk}
use Rattle.std.specs.List.{AllZip}
use Rattle.ipfix_message.specs.Domains.{Message}
use Rattle.ipfix_message.specs.declared.record.DataRecord.{DataRecord}
use Rattle.ipfix_message.specs.declared.passed_over.PassedOver.{PassedOver}
use Rattle.ipfix_session.specs.declared.fault.SessionFault.TheVariants as sessions
use Rattle.ipfix_session.specs.declared.stop.Stop.TheVariants.{Clean}
use Rattle.ipfix_session.specs.declared.report.DomainReport.{DomainReport}
use Rattle.ipfix_session.specs.Drives.{Gave}
use Rattle.ipfix_session.specs.Given.{gives, records_of, stop_of}
use Rattle.ipfix_session.specs.Ledger.{capped, domain_report, domains_of}
use Rattle.ipfix_session.specs.Reports.{passed_over_in}
use Rattle.ipfix_session.specs.Sources.{SourceView}
use Rattle.flow_table.specs.AddedUp.{rows_in, AddUpTooLarge, AreAddedUp}
use Rattle.flow_table.specs.Missing.{by_place, missing_of}
use Rattle.flow_table.specs.Plans.{PlanValue}
use Rattle.flow_table.specs.RowTotals.{AreOf, totals_plan}
use Rattle.flow_table.specs.SameTables.{RowValue}
use Rattle.flow_table.specs.Tables.{tally_of, IsTable}
use Rattle.flow_table.specs.declared.missing.Missing.{Missing}
use Rattle.flow_table.specs.declared.plan.TheConstants.{MAX_KEYS, MAX_COUNTERS}
use Rattle.flow_table.specs.declared.table.Table.{Table}
use Rattle.flow_table.specs.declared.tally.Tally.{Tally}
use Rattle.flow_export.specs.declared.intervals.Intervals.{Intervals}
use Rattle.flow_export.specs.declared.intervals.Intervals.TheVariants.{OfPlan}
use Rattle.flow_merge.specs.RowRecords.{IsRowOf, IsRowRecordIn}
use Rattle.flow_merge.specs.RowFaults.{IsRowFaultIn}
use Rattle.flow_merge.specs.declared.row_fault.RowFault.{RowFault}
use Rattle.flow_merge.specs.declared.row_fault.RowFault.TheVariants as faults
use Rattle.flow_merge.specs.declared.merge_fault.MergeFault.{MergeFault}
use Rattle.flow_merge.specs.declared.merge_fault.MergeFault.TheVariants.{OutOfMemory, SumTooLarge, Session, NotAnExport, Lost, Row, Border}
use Rattle.flow_merge.specs.declared.merging.Merging.{Merging}

-- ---- an export

-- nothing is passed over
abbrev pub nothing : PassedOver
nothing = record { skipped_sets = 0; unknown_sets = 0; ignored_withdrawals = 0 }

-- there are messages, of which nothing is passed over: no set, and no withdrawal
pub record AreOfExport (ms : List Message) : Type 0 where
  pub some : 0 < length ms
  pub whole : passed_over_in ms ≡ nothing

-- the sequence numbers count on (RFC 7011, section 3.1): no data record is missing, and none comes twice
abbrev pub LosesNone : DomainReport → Type 0
LosesNone d = (d.lost ≡ 0) × (d.backward ≡ 0)

abbrev pub NoneLost : List Message → Type 0
NoneLost ms = All (λ domain. LosesNone (domain_report ms domain)) (domains_of ms)

-- the records are those of the rows, one after another
abbrev pub AreRowRecordsIn : Intervals → PlanValue → List DataRecord → List RowValue → Type 0
AreRowRecordsIn intervals plan rs rows = AllZip (IsRowRecordIn intervals plan) rs rows

-- octets that are an export of these rows: whole messages without a fault, of which nothing is passed over and nothing is
-- lost, and all of whose records are the rows
pub record IsExportIn (intervals : Intervals) (plan : PlanValue) (text : List ℕ) (rows : List RowValue) : Type 0 where
  pub clean : stop_of text ≡ Clean
  pub messages : AreOfExport (gives text).messages
  pub none_lost : NoneLost (gives text).messages
  pub records : AreRowRecordsIn intervals plan (records_of text) rows

-- the same of the exports of a plan's tables
abbrev pub AreRowRecords : PlanValue → List DataRecord → List RowValue → Type 0
AreRowRecords = AreRowRecordsIn OfPlan

abbrev pub IsExport : PlanValue → List ℕ → List RowValue → Type 0
IsExport = IsExportIn OfPlan

-- ---- reading one

module _ {S : Type 0} (seen : S → SourceView) where
  -- an export of these rows is what a source gave: it showed its end, and no read failed
  pub record GivesExportIn (limit : ℕ) (intervals : Intervals) (plan : PlanValue) (before after : S) (rows : List RowValue) : Type 0 where
    pub gave : List ℕ
    pub given : Gave seen limit before gave after None
    pub export : IsExportIn intervals plan gave rows

  -- each source gave the export of one of the lists of rows, in their order
  abbrev pub GiveExportsIn : ℕ → Intervals → PlanValue → List S → List (List RowValue) → Type 0
  GiveExportsIn limit intervals plan sources exports =
      AllZip (λ source rows. (after : S) × GivesExportIn limit intervals plan source after rows) sources exports

  -- the rows of the exports that each source gave, added up, are those of a table
  pub record AddsAllUpIn (limit : ℕ) (intervals : Intervals) (plan : PlanValue) (sources : List S) (table : Table) : Type 0 where
    pub exports : List (List RowValue)
    pub given : GiveExportsIn limit intervals plan sources exports
    pub added_up : AreAddedUp (flat_map (λ rows. rows) exports) (rows_in table)

  -- the same of the exports of a plan's tables
  abbrev pub GivesExport : ℕ → PlanValue → S → S → List RowValue → Type 0
  GivesExport limit = GivesExportIn limit OfPlan

  abbrev pub GiveExports : ℕ → PlanValue → List S → List (List RowValue) → Type 0
  GiveExports limit = GiveExportsIn limit OfPlan

  abbrev pub AddsAllUp : ℕ → PlanValue → List S → Table → Type 0
  AddsAllUp limit = AddsAllUpIn limit OfPlan

-- the first records are those of rows, which are too large after the rows before them
pub record FirstTooLargeIn (intervals : Intervals) (plan : PlanValue) (before : List RowValue) (rs : List DataRecord) : Type 0 where
  pub first : List DataRecord
  pub others : List DataRecord
  pub are : rs ≡ first ++ others
  pub rows : List RowValue
  pub records : AreRowRecordsIn intervals plan first rows
  pub large : AddUpTooLarge (before ++ rows)

-- the first records are those of rows, which are not too large after the rows before them, and the next one is that of none:
-- this fault of it, which isn't want of memory
pub record FirstOtherIn (intervals : Intervals) (plan : PlanValue) (before : List RowValue) (rs : List DataRecord) (fault : RowFault) : Type 0 where
  pub first : List DataRecord
  pub next : DataRecord
  pub others : List DataRecord
  pub are : rs ≡ first ++ next ∷ others
  pub rows : List RowValue
  pub records : AreRowRecordsIn intervals plan first rows
  pub small : AddUpTooLarge (before ++ rows) → ⊥
  pub other : IsRowFaultIn intervals plan next fault
  pub not_memory : fault ≢ faults.OutOfMemory

-- the same of a row that is within no interval between borders, which is the record of this number, counted from 1 up to the greatest
-- of 64 bits
pub record FirstCrossesIn (intervals : Intervals) (plan : PlanValue) (before : List RowValue) (rs : List DataRecord) (number : ℕ) : Type 0 where
  pub other : FirstOtherIn intervals plan before rs faults.Border
  pub counted : number ≡ capped (length other.first + 1)

-- why whole messages were not added to the rows before them, and what of them was in order: memory may run out while the records
-- of an export are added, and the other faults say what is wrong with it
abbrev pub IsAgainstIn : Intervals → PlanValue → List RowValue → List ℕ → MergeFault → Type 0
IsAgainstIn intervals plan before gave NotAnExport = AreOfExport (gives gave).messages → ⊥
IsAgainstIn intervals plan before gave Lost = AreOfExport (gives gave).messages × (NoneLost (gives gave).messages → ⊥)
IsAgainstIn intervals plan before gave (Row fault) = AreOfExport (gives gave).messages × NoneLost (gives gave).messages × FirstOtherIn intervals plan before (records_of gave) fault
IsAgainstIn intervals plan before gave (Border row) = AreOfExport (gives gave).messages × NoneLost (gives gave).messages × FirstCrossesIn intervals plan before (records_of gave) row
IsAgainstIn intervals plan before gave SumTooLarge = AreOfExport (gives gave).messages × NoneLost (gives gave).messages × FirstTooLargeIn intervals plan before (records_of gave)
IsAgainstIn intervals plan before gave (Session fault) = ⊥
IsAgainstIn intervals plan before gave OutOfMemory = AreOfExport (gives gave).messages × NoneLost (gives gave).messages

module _ {S : Type 0} (seen : S → SourceView) where
  -- why what a source gave was not added to rows: the session ended early; or its messages are whole, and this is against
  -- them
  abbrev pub IsDueIn : ℕ → Intervals → PlanValue → List RowValue → S → S → MergeFault → Type 0
  IsDueIn limit intervals plan rows before after (Session sessions.SinkClosed) = ⊥
  IsDueIn limit intervals plan rows before after (Session fault) = (gave : List ℕ) × Gave seen limit before gave after (Some fault)
  IsDueIn limit intervals plan rows before after fault = (gave : List ℕ) × Gave seen limit before gave after None × IsAgainstIn intervals plan rows gave fault

  -- where rows have the plan's intervals
  abbrev pub IsDue : ℕ → PlanValue → List RowValue → S → S → MergeFault → Type 0
  IsDue limit = IsDueIn limit OfPlan

-- ---- what is merged

-- the plan of the exports
unfoldable pub merging_plan : Merging → PlanValue
merging_plan m = totals_plan m.totals

-- the intervals that its rows are put in
unfoldable pub merging_intervals : Merging → Intervals
merging_intervals m = m.intervals.intervals

-- it stands for these rows, each of them one under the plan
unfoldable pub StandsFor : Merging → List RowValue → Type 0
StandsFor m rows = AreOf m.totals rows × All (IsRowOf (totals_plan m.totals)) rows

-- what holds of all rows that it may stand for
abbrev pub ForRowsOf : Merging → (List RowValue → Type 0) → Type 0
ForRowsOf m Holds = (rows : List RowValue) → StandsFor m rows → Holds rows

-- an export's rows are added to those before
pub record AddsExport {S : Type 0} (seen : S → SourceView) (limit : ℕ) (old : Merging) (before after : S) (rows : List RowValue) (new : Merging) : Type 0 where
  pub more : List RowValue
  pub gives_export : GivesExportIn seen limit (merging_intervals old) (merging_plan old) before after more
  pub stands : StandsFor new (rows ++ more)

-- why an export that a source gave can't be added to those before
abbrev pub CannotAdd : {S : Type 0} → (S → SourceView) → ℕ → Merging → List RowValue → S → S → MergeFault → Type 0
CannotAdd seen limit m rows before after fault = IsDueIn seen limit (merging_intervals m) (merging_plan m) rows before after fault

-- what is answered of an export that a source gave: at Ok its rows are added to those before, whatever these are
abbrev pub ReadsExport : {S E : Type 0} → (S → SourceView) → ℕ → Merging → S → S → Result Merging E → Type 0
ReadsExport seen limit old before after result = ForRowsOf old (λ rows. IfOk result (AddsExport seen limit old before after rows))

-- and a fault is why they can't be added
abbrev pub RefusesExport : {S X : Type 0} → (S → SourceView) → ℕ → Merging → S → S → Result X MergeFault → Type 0
RefusesExport seen limit m before after result = ForRowsOf m (λ rows. IfErr result (CannotAdd seen limit m rows before after))

-- ---- the tables of records

-- a table has the rows of the table of a list of records; the records by class, and what they lack, are not exported
abbrev pub HasRowsOf : PlanValue → List DataRecord → Table → Type 0
HasRowsOf plan rs table = IsTable plan rs (record table { tally = tally_of plan rs; missing = missing_of plan rs })

-- what counts no records: exports don't tell them by class
abbrev pub no_records : Tally
no_records = record { options = 0; untimed = 0; backward = 0; unkeyed = 0; too_long = 0; used = 0 }

-- what no records lack
abbrev pub none_missing : Missing
none_missing = record { start = 0; end = 0; keys = by_place MAX_KEYS (λ k. 0); counters = by_place MAX_COUNTERS (λ c. 0) }

-- all records of some lists
abbrev pub all_of : List (List DataRecord) → List DataRecord
all_of lists = flat_map (λ rs. rs) lists
