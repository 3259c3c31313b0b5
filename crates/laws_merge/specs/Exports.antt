-- Exports of the tables of records, and what merging answers of them.
use Rattle.std.specs.Prelude.{◌≡◌, ℕ, ◌^◌, ◌<◌, List, ◌∷◌, ◌++◌, length, flat_map, Some}
use Rattle.std.specs.List.{AllZip}
use Rattle.ipfix_message.specs.declared.record.DataRecord.{DataRecord}
use Rattle.ipfix_message.specs.declared.fault.MessageFault.TheVariants as messages
use Rattle.ipfix_session.specs.declared.fault.SessionFault.TheVariants as sessions
use Rattle.ipfix_session.specs.Sources.{SourceView}
use Rattle.flow_table.specs.AddedUp.{HasTooLargeRow, rows_in}
use Rattle.flow_table.specs.Fitting.{FitsPlan}
use Rattle.flow_table.specs.Missing.{missing_of}
use Rattle.flow_table.specs.Plans.{PlanValue, IsPlan}
use Rattle.flow_table.specs.SameTables.{RowValue}
use Rattle.flow_table.specs.Tables.{tally_of, IsTable}
use Rattle.flow_table.specs.declared.table.Table.{Table}
use Rattle.flow_export.specs.IpfixText.{ipfix_text}
use Rattle.flow_merge.specs.Merging.{all_of, GiveExports, HasRowsOf, IsDue}
use Rattle.flow_merge.specs.declared.merge_fault.MergeFault.{MergeFault}
use Rattle.flow_merge.specs.declared.merge_fault.MergeFault.TheVariants.{OutOfMemory, SumTooLarge, Session}

-- octets that are the export of the table of a list of records under a plan
pub record IsExportOf (plan : PlanValue) (rs : List DataRecord) (table : Table) (text : List ℕ) : Type 0 where
  pub is_plan : IsPlan plan
  pub short : plan.length < 2 ^ 32
  pub is_table : IsTable plan rs table
  pub fits : FitsPlan plan table
  pub few : length table.rows.items < 2 ^ 32
  pub time : ℕ
  pub small_time : time < 2 ^ 32
  pub octets : text ≡ ipfix_text plan time (rows_in table)

-- a source holds them
pub record HoldsExport (plan : PlanValue) (source : SourceView) (rs : List DataRecord) : Type 0 where
  pub text : List ℕ
  pub held : source.text ≡ Some text
  pub table : Table
  pub export : IsExportOf plan rs table text

-- a source holds the export of a table with these rows, that of some records
pub record HoldsRows (plan : PlanValue) (source : SourceView) (rows : List RowValue) : Type 0 where
  pub records : List DataRecord
  pub holds : HoldsExport plan source records
  pub rows_are : rows ≡ rows_in holds.table

-- each source holds the export of the table of one of the lists, in their order
abbrev pub AreExportsOf : {S : Type 0} → (S → SourceView) → PlanValue → List S → List (List DataRecord) → Type 0
AreExportsOf seen plan sources lists = AllZip (λ source rs. HoldsExport plan (seen source) rs) sources lists

-- if the sources hold the exports of the tables of lists of records, one each, this is so of all these records
abbrev pub IfExportsOf : {S : Type 0} → (S → SourceView) → PlanValue → List S → (List DataRecord → Type 0) → Type 0
IfExportsOf seen plan sources P = (lists : List (List DataRecord)) → AreExportsOf seen plan sources lists → P (all_of lists)

-- and a table has the rows of the table of all of them
abbrev pub HasRowsOfAll : {S : Type 0} → (S → SourceView) → PlanValue → List S → Table → Type 0
HasRowsOfAll seen plan sources table = IfExportsOf seen plan sources (λ records. HasRowsOf plan records table)

-- the faults of an export: memory ran out, a read failed, more reads would have been needed, or sums are too large
abbrev pub IsExportFault : Type 0 → MergeFault → Type 0
IsExportFault large OutOfMemory = Unit {0}
IsExportFault large (Session (sessions.Message messages.OutOfMemory)) = Unit {0}
IsExportFault large (Session sessions.ReadFailed) = Unit {0}
IsExportFault large (Session sessions.TooManyReads) = Unit {0}
IsExportFault large SumTooLarge = large
IsExportFault large fault = ⊥

-- the fault of exports that sources hold, too large if the records of all of them are
abbrev pub IsFaultOfExports : {S : Type 0} → (S → SourceView) → PlanValue → List S → MergeFault → Type 0
IsFaultOfExports seen plan sources fault = IfExportsOf seen plan sources (λ records. IsExportFault (HasTooLargeRow plan records) fault)

-- the table with the records by class that exports don't tell, and with what they lack
abbrev pub with_counts : PlanValue → List DataRecord → Table → Table
with_counts plan rs table = record table { tally = tally_of plan rs; missing = missing_of plan rs }

-- a table that can be exported at a time: it fits a plan of intervals below 2^32 ms, and has fewer than 2^32 rows
pub record IsExportable (plan : PlanValue) (table : Table) (time : ℕ) : Type 0 where
  pub is_plan : IsPlan plan
  pub short : plan.length < 2 ^ 32
  pub fits : FitsPlan plan table
  pub few : length table.rows.items < 2 ^ 32
  pub small_time : time < 2 ^ 32

module _ {S : Type 0} (seen : S → SourceView) where
  -- why sources were not all added up: the first of them gave exports, and of the next one this fault is due
  pub record StopsAt (limit : ℕ) (plan : PlanValue) (sources : List S) (fault : MergeFault) : Type 0 where
    pub first : List S
    pub next : S
    pub others : List S
    pub are : sources ≡ first ++ next ∷ others
    pub exports : List (List RowValue)
    pub given : GiveExports seen limit plan first exports
    pub after : S
    pub due : IsDue seen limit plan (flat_map (λ rows. rows) exports) next after fault
