-- A table's export, read as the text of a session.
use Rattle.std.specs.Prelude.{◌≡◌, ◌≢◌, ℕ, ◌^◌, ◌<◌, List, length, map, All, None}
use Rattle.std.specs.List.Sorted.{IsStrictlySortedBy}
use Rattle.ipfix_wire.specs.declared.set.TheConstants.{FIRST_TEMPLATE_ID}
use Rattle.flow_export.specs.CsvText.{last_of}
use Rattle.ipfix_message.specs.declared.record.DataRecord.{DataRecord}
use Rattle.ipfix_session.specs.declared.stop.Stop.TheVariants.{Clean}
use Rattle.ipfix_session.specs.Given.{gives, records_of, stop_of}
use Rattle.ipfix_session.specs.Ledger.{domain_report}
use Rattle.flow_table.specs.declared.key.Key.{Key}
use Rattle.flow_table.specs.declared.method.Method.TheVariants.{Start}
use Rattle.flow_table.specs.declared.table.Table.{Table}
use Rattle.flow_table.specs.AddedUp.{place}
use Rattle.flow_table.specs.Plans.{PlanValue, IsPlan, exported_element, exporter}
use Rattle.flow_table.specs.Tables.{place_cmp, IsTable}
use Rattle.flow_table.specs.SameTables.{RowValue, row_value, value_of}
use Rattle.flow_export.specs.Fitting.{FitsValue}
use Rattle.flow_export.specs.IpfixText.{row_fields, ipfix_text}

-- a row as a data record
abbrev pub row_record : PlanValue → ℕ → RowValue → DataRecord
row_record plan time row = record { domain = 0; export_time = time; template = FIRST_TEMPLATE_ID; scope = 0; fields = row_fields plan row }

-- fewer than 2^32 rows that fit a plan, and a time that has room in a header
pub record CanBeExported (plan : PlanValue) (time : ℕ) (rows : List RowValue) : Type 0 where
  pub is_plan : IsPlan plan
  pub small_time : time < 2 ^ 32
  pub few : length rows < 2 ^ 32
  pub fit : All (FitsValue plan) rows

-- of any export: its plan, its time, and its rows
abbrev pub ForExports : (PlanValue → ℕ → List RowValue → Type 0) → Type 0
ForExports P = (plan : PlanValue) (time : ℕ) (rows : List RowValue) → P plan time rows

-- no fault, the rows in order as records of the template, and no loss in any domain
pub record IsReadBack (plan : PlanValue) (time : ℕ) (rows : List RowValue) : Type 0 where
  pub stop : stop_of (ipfix_text plan time rows) ≡ Clean
  pub records : records_of (ipfix_text plan time rows) ≡ map (row_record plan time) rows
  pub lost : (domain : ℕ) → (domain_report (gives (ipfix_text plan time rows)).messages domain).lost ≡ 0
  pub backward : (domain : ℕ) → (domain_report (gives (ipfix_text plan time rows)).messages domain).backward ≡ 0

-- ---- aggregated again

-- the key of what is exported: a prefix, and an exporter's address, have elements of their own there
abbrev pub as_exported : Key → Key
as_exported key = record { element = exported_element key; prefix = None }

-- the same plan by method start, each key read from the element that it is exported as
abbrev pub by_start : PlanValue → PlanValue
by_start plan = record plan { method = Start; keys = map as_exported plan.keys }

-- a key that is exported as the element that it is read from
pub record IsWhole (key : Key) : Type 0 where
  pub whole : key.prefix ≡ None
  pub sent : key.element ≢ exporter

-- rows in order, whose intervals end in time and whose sums have places of 64 bits
pub record CanBeCounted (plan : PlanValue) (rows : List RowValue) : Type 0 where
  pub is_plan : IsPlan plan
  pub fit : All (FitsValue plan) rows
  pub ascending : IsStrictlySortedBy place_cmp (map place rows)
  pub in_time : All (λ row. last_of plan row < 2 ^ 50) rows
  pub small : All (λ row. All (λ v. v < 2 ^ 64) row.sums) rows

-- the intervals of a table's rows end in time
abbrev pub EndInTime : PlanValue → Table → Type 0
EndInTime plan table = All (λ row. last_of plan (value_of row) < 2 ^ 50) table.rows.items

-- a row of one flow
abbrev pub with_one_flow : RowValue → RowValue
with_one_flow row = row_value row.interval row.key row.sums 1

-- the aggregate of the records by method start has the rows, each with one flow
abbrev pub Recounts : PlanValue → ℕ → List RowValue → Type 0
Recounts plan time rows = (table : Table) → IsTable (by_start plan) (map (row_record plan time) rows) table → map value_of table.rows.items ≡ map with_one_flow rows
