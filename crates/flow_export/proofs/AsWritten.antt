-- What the writer of `csv` writes of a table is its text.
use Rattle.std.proofs.Common.{◌≡◌, true, List}
use Rattle.std.specs.Prelude.{codes}
use Rattle.std.specs.Fmt.{decimal}
use Rattle.element_registry.specs.Registries.{Known}
use Rattle.flow_table.specs.Plans.{PlanValue}
use Rattle.flow_table.specs.SameTables.{RowValue}
use Rattle.csv.specs.Writing.{default_writer, row_text}
use Rattle.flow_export.specs.CsvText.{line, heading, heading_line, first_of, last_of, row_texts}
use Rattle.flow_export.specs.PlainNames.{have_plain_names}
use Rattle.flow_export.proofs.Plain.{row_text-plain, heading_plain, row_plain}

pub heading_written : (known : List Known) (plan : PlanValue) → have_plain_names known ≡ true → heading_line known plan ≡ line (heading known plan)
heading_written known plan plain = row_text-plain (codes "start") (codes "end") _ (heading_plain known plan plain)

pub row_written : (plan : PlanValue) (row : RowValue) → row_text default_writer (row_texts plan row) ≡ line (row_texts plan row)
row_written plan row = row_text-plain (decimal (first_of plan row)) (decimal (last_of plan row)) _ (row_plain plan row)
