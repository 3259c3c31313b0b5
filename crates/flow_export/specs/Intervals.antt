-- The first and the last millisecond of a row's interval, since 1970-01-01 UTC.
use Rattle.std.specs.Prelude.{ℕ, ◌+◌, ◌-◌, ◌*◌, slice_index_or}
use Rattle.flow_table.specs.Plans.{PlanValue}
use Rattle.flow_export.specs.declared.intervals.Intervals.{Intervals}
use Rattle.flow_export.specs.declared.intervals.Intervals.TheVariants.{OfPlan, Between}

-- an interval of the plan begins at its number times the plan's length; between borders, it begins at the border of its number
abbrev pub first_in : Intervals → PlanValue → ℕ → ℕ
first_in OfPlan plan k = k * plan.length
first_in (Between borders) plan k = slice_index_or borders.now k 0

-- and ends before the next one
abbrev pub last_in : Intervals → PlanValue → ℕ → ℕ
last_in OfPlan plan k = k * plan.length + plan.length - 1
last_in (Between borders) plan k = slice_index_or borders.now (k + 1) 0 - 1
