-- The rows of a table that fits its plan have an export.
use Rattle.std.proofs.Common.{◌≡◌, List, All, subst, sym}
use Rattle.std.proofs.lemmas.List.Elements.{All-map, All-weaker}
use Rattle.flow_table.specs.AddedUp.{rows_in}
use Rattle.flow_table.specs.Fitting.{FitsPlan, FitsRow}
use Rattle.flow_table.specs.Plans.{PlanValue}
use Rattle.flow_table.specs.SameTables.{RowValue, value_of}
use Rattle.flow_table.specs.declared.table.Row.{Row}
use Rattle.flow_table.specs.declared.table.Table.{Table}
use Rattle.flow_export.specs.Fitting.{IsExportable}

exportable : (plan : PlanValue) (row : Row) → FitsRow plan row → IsExportable plan (value_of row)
exportable plan row fits = record { interval = fits.interval; fields = record { key = fits.key; sums = fits.sums } }

pub rows_exportable : (plan : PlanValue) (table : Table) (rows : List RowValue) → rows ≡ rows_in table → FitsPlan plan table → All (IsExportable plan) rows
rows_exportable plan table rows is fits =
    subst (All (IsExportable plan)) (sym is) (All-map (IsExportable plan) value_of table.rows.items
    (All-weaker (FitsRow plan) (λ row. IsExportable plan (value_of row)) (exportable plan) table.rows.items fits.rows))
