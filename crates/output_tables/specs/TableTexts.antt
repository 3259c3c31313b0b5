-- The text of a table.
use Rattle.std.specs.Prelude.{◌≡◌, ◌≤◌, ◌^◌, ◌↔◌, ℕ, List, Option}
use Rattle.std.specs.Io.KnownBytes.{Appends}
use Rattle.element_registry.specs.Registries.{Known}
use Rattle.flow_table.specs.AddedUp.{rows_in}
use Rattle.flow_table.specs.SameTables.{RowValue}
use Rattle.flow_export.specs.AnyTables.{intervals_of, table_in}
use Rattle.flow_export.specs.declared.any_table.AnyTable.{AnyTable}
use Rattle.flow_export.specs.declared.intervals.Intervals.{Intervals}
use Rattle.flow_export.specs.declared.intervals.Intervals.TheVariants.{OfPlan}
use Rattle.flow_table.specs.Plans.{PlanValue}
use Rattle.flow_table.specs.declared.table.Table.{Table}
use Rattle.flow_export.specs.declared.fault.ExportFault.{ExportFault}
use Rattle.flow_export.specs.declared.fault.ExportFault.TheVariants.{TooManyRows}
use Rattle.flow_export.specs.declared.format.Format.{Format}
use Rattle.flow_export.specs.declared.format.Format.TheVariants.{Csv, Json, Ipfix}
use Rattle.flow_export.specs.CsvText.{csv_text_in}
use Rattle.flow_export.specs.IpfixText.{ipfix_text_in}
use Rattle.flow_export.specs.JsonText.{json_text_in}
use Rattle.output_tables.specs.declared.output.Output.{Output}

-- a table as it is written, with the names that elements have; IPFIX has no names
abbrev pub text_by : Intervals → List Known → Format → ℕ → PlanValue → List RowValue → List ℕ
text_by intervals known Csv time plan rows = csv_text_in intervals known plan rows
text_by intervals known Json time plan rows = json_text_in intervals known plan rows
text_by intervals known Ipfix time plan rows = ipfix_text_in intervals plan time rows

abbrev pub export_text_in : Intervals → List Known → Output → PlanValue → Table → List ℕ
export_text_in intervals known output plan table = text_by intervals known output.format output.time plan (rows_in table)

-- a table whose rows have these intervals was written, and nothing else
abbrev pub WritesIn : Intervals → List Known → PlanValue → Output → Option (List ℕ) → Option (List ℕ) → Table → Type 0
WritesIn intervals known plan output old new table = Appends old new (export_text_in intervals known output plan table)

abbrev pub WritesAny : List Known → PlanValue → Output → Option (List ℕ) → Option (List ℕ) → AnyTable → Type 0
WritesAny known plan output old new table = WritesIn (intervals_of table) known plan output old new (table_in table)

-- the same of a plan's table
abbrev pub export_text : List Known → Output → PlanValue → Table → List ℕ
export_text = export_text_in OfPlan

abbrev pub Writes : List Known → PlanValue → Output → Option (List ℕ) → Option (List ℕ) → Table → Type 0
Writes = WritesIn OfPlan

-- more rows than the sequence numbers of messages of IPFIX count (RFC 7011, section 3.1); in CSV and JSON none are too many
abbrev pub IsTooMany : Format → ℕ → Type 0
IsTooMany Csv rows = ⊥
IsTooMany Json rows = ⊥
IsTooMany Ipfix rows = 2 ^ 32 ≤ rows

-- a table of so many rows may not be written for this reason: exactly if they are too many that is told, and nothing was written
pub record IsNotWritten (output : Output) (rows : ℕ) (IsUntouched : Type 0) (fault : ExportFault) : Type 0 where
  pub many : (fault ≡ TooManyRows) ↔ IsTooMany output.format rows
  pub untouched : fault ≡ TooManyRows → IsUntouched
