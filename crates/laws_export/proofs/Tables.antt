-- Rows that fit a plan, as values.
use Rattle.std.proofs.Common.{◌≡◌, ℕ, ◌^◌, ◌<◌, List, length, map, All, sym, subst}
use Rattle.std.specs.List.Sorted.{IsStrictlySortedBy}
use Rattle.std.proofs.lemmas.List.{length-map}
use Rattle.std.proofs.lemmas.List.Elements.{All-map, All-weaker}
use Rattle.flow_table.specs.declared.table.Row.{Row}
use Rattle.flow_table.specs.declared.table.Table.{Table}
use Rattle.flow_table.specs.Fitting.{FitsRow, FitsPlan}
use Rattle.flow_table.specs.Plans.{PlanValue, IsPlan}
use Rattle.flow_table.specs.SameTables.{value_of}
use Rattle.flow_table.specs.Tables.{place_cmp}
use Rattle.flow_table.proofs.RowsHeld.{places_of_values}
use Rattle.flow_export.specs.CsvText.{last_of}
use Rattle.flow_export.specs.Fitting.{FitsValue}
use Rattle.laws_export.specs.ReadBack.{CanBeExported, CanBeCounted}

values_fit : (plan : PlanValue) (rows : List Row) → All (FitsRow plan) rows → All (FitsValue plan) (map value_of rows)
values_fit plan rows all =
    All-map (FitsValue plan) value_of rows (All-weaker (FitsRow plan) (λ row. FitsValue plan (value_of row)) (λ row fits. record { key = fits.key; sums = fits.sums }) rows all)

small_sums : (plan : PlanValue) (rows : List Row) → All (FitsRow plan) rows → All (λ row. All (λ v. v < 2 ^ 64) row.sums.items) rows
small_sums plan rows all = All-weaker (FitsRow plan) (λ row. All (λ v. v < 2 ^ 64) row.sums.items) (λ row fits. fits.small) rows all

pub can_be_exported : (plan : PlanValue) (table : Table) (time : ℕ) → IsPlan plan → FitsPlan plan table → time < 2 ^ 32 → length table.rows.items < 2 ^ 32 → CanBeExported plan time (map value_of table.rows.items)
can_be_exported plan table time is fits small few =
    let same : length (map value_of table.rows.items) ≡ length table.rows.items = length-map _ _ in
    record { is_plan = is; small_time = small; few = rw same few; fit = values_fit plan table.rows.items fits.rows }

pub can_be_counted : (plan : PlanValue) (table : Table) → IsPlan plan → FitsPlan plan table
    → All (λ row. last_of plan (value_of row) < 2 ^ 50) table.rows.items → CanBeCounted plan (map value_of table.rows.items)
can_be_counted plan table is fits in_time =
    record {
      is_plan = is;
      fit = values_fit plan table.rows.items fits.rows;
      ascending = subst (IsStrictlySortedBy place_cmp) (sym (places_of_values table.rows.items)) fits.ascending;
      in_time = All-map (λ row. last_of plan row < 2 ^ 50) value_of table.rows.items in_time;
      small = All-map (λ row. All (λ v. v < 2 ^ 64) row.sums) value_of table.rows.items (small_sums plan table.rows.items fits.rows);
    }
