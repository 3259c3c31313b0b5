-- The rows of a table that are left, however they are kept.
use Rattle.std.specs.Prelude.{List, map}
use Rattle.flow_table.specs.SameTables.{RowValue, value_of}
use Rattle.flow_export.specs.declared.table_rows.RowsLeft.{RowsLeft}
use Rattle.flow_export.specs.declared.table_rows.RowsLeft.TheVariants.{Kept, Made}

abbrev pub rows_left : RowsLeft → List RowValue
rows_left (Kept rows) = map value_of rows.now
rows_left (Made rows) = rows
