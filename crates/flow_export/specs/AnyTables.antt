-- A table, however its rows are kept.
use Rattle.std.specs.Prelude.{List}
use Rattle.flow_table.specs.AddedUp.{rows_in}
use Rattle.flow_table.specs.SameTables.{RowValue}
use Rattle.flow_table.specs.declared.table.Table.{Table}
use Rattle.flow_export.specs.declared.any_table.AnyTable.{AnyTable}
use Rattle.flow_export.specs.declared.any_table.AnyTable.TheVariants.{Rows, Flat}
use Rattle.flow_export.specs.declared.intervals.Intervals.{Intervals}
use Rattle.flow_export.specs.declared.intervals.Intervals.TheVariants.{OfPlan}

abbrev pub table_in : AnyTable → Table
table_in (Rows table) = table.now
table_in (Flat table intervals) = table.now

-- when the intervals of its rows begin and end
abbrev pub intervals_of : AnyTable → Intervals
intervals_of (Rows table) = OfPlan
intervals_of (Flat table intervals) = intervals

abbrev pub rows_of : AnyTable → List RowValue
rows_of table = rows_in (table_in table)
