-- What totals of rows stand for: a list of rows.
use Rattle.std.specs.Prelude.{◌≡◌, ℕ, List, [], ◌∷◌, ◌++◌}
use Rattle.ipfix_elements.specs.declared.cell.Cell.{Cell}
use Rattle.flow_table.specs.AddedUp.{added_up, AddUpTooLarge}
use Rattle.flow_table.specs.Plans.{PlanValue}
use Rattle.flow_table.specs.Rows.{AreRowsOf, kept_at}
use Rattle.flow_table.specs.SameTables.{RowValue, value_of}
use Rattle.flow_table.specs.declared.rows.Rows.{Rows}
use Rattle.flow_table.specs.declared.row_totals.RowTotals.{RowTotals}
use Rattle.flow_table.specs.declared.table.Row.{Row}

-- the totals are what the rows add up to, and none of them is too large
pub record HoldsRows (plan : PlanValue) (kept : Rows) (rows : List RowValue) : Type 0 where
  pub of_plan : AreRowsOf plan kept
  pub totals_are : (k : ℕ) (key : List Cell) → kept_at plan kept k key ≡ added_up rows k key
  pub small : AddUpTooLarge rows → ⊥

-- the plan of the rows
unfoldable pub totals_plan : RowTotals → PlanValue
totals_plan totals = totals.plan

-- totals stand for a list of rows
unfoldable pub AreOf : RowTotals → List RowValue → Type 0
AreOf totals rows = HoldsRows totals.plan totals.rows rows

-- for each list of rows that totals stand for
abbrev pub ForRows : RowTotals → (List RowValue → Type 0) → Type 0
ForRows totals P = (rows : List RowValue) → AreOf totals rows → P rows

-- for each of these lists with a row more
abbrev pub ForRowsWith : RowTotals → Row → (List RowValue → Type 0) → Type 0
ForRowsWith totals row P = ForRows totals (λ rows. P (rows ++ value_of row ∷ []))
