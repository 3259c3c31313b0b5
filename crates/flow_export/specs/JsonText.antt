-- A table as lines of JSON: an object (RFC 8259, section 4) for each row.
use Rattle.std.specs.Prelude.{ℕ, List, [], ◌∷◌, ◌++◌, map, flat_map, codes}
use Rattle.std.specs.List.{join_with_byte, zip}
use Rattle.element_registry.specs.Registries.{Known}
use Rattle.flow_table.specs.Plans.{PlanValue}
use Rattle.flow_table.specs.SameTables.{RowValue}
use Rattle.flow_export.specs.CsvText.{comma, heading}
use Rattle.flow_export.specs.Intervals.{first_in, last_in}
use Rattle.flow_export.specs.Shown.{shown_cells}
use Rattle.flow_export.specs.declared.intervals.Intervals.{Intervals}
use Rattle.flow_export.specs.declared.intervals.Intervals.TheVariants.{OfPlan}
use Rattle.ipfix_elements.specs.JsonValues.{in_quotes, json_cell, json_number}

-- the values of a row, in the order of the heading: its interval, its key, its sums and the number of its flows
abbrev pub row_values_in : Intervals → PlanValue → RowValue → List (List ℕ)
row_values_in intervals plan row =
    json_number (first_in intervals plan row.interval) ∷ json_number (last_in intervals plan row.interval) ∷
    (map json_cell (shown_cells plan.keys row.key) ++ (map json_number row.sums ++ json_number row.flows ∷ []))

-- a name and its value
abbrev pub member : List ℕ × List ℕ → List ℕ
member pair = in_quotes pair.0 ++ (codes ":" ++ pair.1)

-- members with commas between them, and the end of the line
abbrev pub object_line : List (List ℕ × List ℕ) → List ℕ
object_line pairs = codes "{" ++ (join_with_byte comma (map member pairs) ++ codes "}\n")

-- each name of the heading with the row's value
abbrev pub row_object_in : Intervals → List Known → PlanValue → RowValue → List ℕ
row_object_in intervals known plan row = object_line (zip (heading known plan) (row_values_in intervals plan row))

-- a line for each row
abbrev pub json_text_in : Intervals → List Known → PlanValue → List RowValue → List ℕ
json_text_in intervals known plan rows = flat_map (row_object_in intervals known plan) rows

-- those of a plan's table
abbrev pub row_values : PlanValue → RowValue → List (List ℕ)
row_values = row_values_in OfPlan

abbrev pub row_object : List Known → PlanValue → RowValue → List ℕ
row_object = row_object_in OfPlan

abbrev pub json_text : List Known → PlanValue → List RowValue → List ℕ
json_text = json_text_in OfPlan
