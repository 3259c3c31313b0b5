-- What a table is written as.
use Rattle.std.specs.Prelude.{◌≤◌, ◌^◌, ℕ, List}
use Rattle.flow_table.specs.Plans.{PlanValue}
use Rattle.flow_table.specs.SameTables.{RowValue}
use Rattle.flow_export.specs.CsvText.{csv_text_in}
use Rattle.flow_export.specs.IpfixText.{ipfix_text_in}
use Rattle.flow_export.specs.JsonText.{json_text_in}
use Rattle.flow_export.specs.AnyTables.{intervals_of, rows_of}
use Rattle.flow_export.specs.declared.any_table.AnyTable.{AnyTable}
use Rattle.flow_export.specs.declared.intervals.Intervals.{Intervals}
use Rattle.flow_export.specs.declared.table_text.TableText.{TableText}
use Rattle.flow_export.specs.declared.table_text.TableText.TheVariants.{Csv, Json, Ipfix}

abbrev pub text_in : Intervals → TableText → PlanValue → List RowValue → List ℕ
text_in intervals (Csv elements) plan rows = csv_text_in intervals elements.now plan rows
text_in intervals (Json elements) plan rows = json_text_in intervals elements.now plan rows
text_in intervals (Ipfix time) plan rows = ipfix_text_in intervals plan time rows

abbrev pub text_of : TableText → PlanValue → AnyTable → List ℕ
text_of text plan table = text_in (intervals_of table) text plan (rows_of table)

-- more rows than the sequence numbers of messages of IPFIX count (RFC 7011, section 3.1); in CSV and JSON none are too many
abbrev pub IsTooMany : TableText → ℕ → Type 0
IsTooMany (Csv elements) rows = ⊥
IsTooMany (Json elements) rows = ⊥
IsTooMany (Ipfix time) rows = 2 ^ 32 ≤ rows
