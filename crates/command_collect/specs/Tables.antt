-- What a receipt says of the table of a run.
use Rattle.std.specs.Prelude.{ℕ, ◌+◌, List, [], ◌∷◌, None, get_or, length, sum_by}
use Rattle.element_registry.specs.Registries.{Known, element_name}
use Rattle.ipfix_wire.specs.declared.specifier.ElementId.{ElementId}
use Rattle.flow_export.specs.declared.format.Format.{Format}
use Rattle.flow_export.specs.declared.format.Format.TheVariants.{Csv, Json, Ipfix}
use Rattle.flow_table.specs.AddedUp.{rows_in}
use Rattle.flow_table.specs.Plans.{PlanValue}
use Rattle.flow_table.specs.SameTables.{RowValue}
use Rattle.flow_table.specs.declared.table.Table.{Table}
use Rattle.flow_table.specs.declared.tally.Tally.{Tally}
use Rattle.output_tables.specs.declared.output.Output.{Output}
use Rattle.table_receipts.specs.Values.{SumValue, TableValue}
use Rattle.table_receipts.specs.declared.receipt.RecordCounts.{RecordCounts}
use Rattle.table_receipts.specs.declared.receipt.TableFormat.{TableFormat}
use Rattle.table_receipts.specs.declared.receipt.TableFormat.TheVariants as formats
use Rattle.command_collect.specs.declared.receipts.hashed_table.TextDigest.{TextDigest}

abbrev pub format_of : Format → TableFormat
format_of Csv = formats.Csv
format_of Json = formats.Json
format_of Ipfix = formats.Ipfix

-- what rows add up to of the counter at a place of the plan
abbrev pub sum_at : ℕ → List RowValue → ℕ
sum_at place rows = sum_by (λ (row : RowValue). get_or row.sums place 0) rows

-- of each counter, from a place on
abbrev pub sums_from : List Known → List RowValue → ℕ → List ElementId → List SumValue
sums_from known rows place [] = []
sums_from known rows place (counter ∷ counters) =
    record { name = element_name known counter; total = sum_at place rows } ∷ sums_from known rows (place + 1) counters

-- of all counters of a table
abbrev pub sums_of : List Known → List ElementId → Table → List SumValue
sums_of known counters table = sums_from known (rows_in table) 0 counters

abbrev pub flows_of : List RowValue → ℕ
flows_of rows = sum_by (λ (row : RowValue). row.flows) rows

abbrev pub counts_of : Tally → RecordCounts
counts_of t = record { used = t.used; options = t.options; untimed = t.untimed; backward = t.backward; unkeyed = t.unkeyed; too_long = t.too_long }

-- by the digest of its text; its rows have the plan's intervals
abbrev pub table_of : List Known → PlanValue → Output → TextDigest → Table → TableValue
table_of known plan output text table = record {
  format = format_of output.format;
  time = output.time;
  into = None;
  octets = text.octets;
  digest = text.sha256;
  rows = length (rows_in table);
  sums = sums_of known plan.counters table;
  flows = flows_of (rows_in table);
}
