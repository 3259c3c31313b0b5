-- The fields of the lines of CSV, as they are appended.
use Rattle.std.specs.Prelude.{◌≡◌, ℕ, List, ◌∷◌, ◌++◌, flat_map}
use Rattle.std.specs.Fmt.{decimal}
use Rattle.csv.specs.Records.{fields_of, Row as CsvRecord}
use Rattle.ipfix_elements.specs.Texts.{cell_text}
use Rattle.ipfix_elements.specs.declared.cell.Cell.{Cell}
use Rattle.flow_table.specs.declared.key.Key.{Key}
use Rattle.flow_table.specs.Plans.{PlanValue}
use Rattle.flow_export.specs.CsvText.{comma}
use Rattle.flow_export.specs.Intervals.{first_in, last_in}
use Rattle.flow_export.specs.Shown.{shown_cells}
use Rattle.flow_export.specs.declared.intervals.Intervals.{Intervals}

-- texts are added to the fields of a record of `csv`
abbrev pub AddsFields : CsvRecord → CsvRecord → List (List ℕ) → Type 0
AddsFields old new texts = fields_of new ≡ fields_of old ++ texts

-- a field that follows another
abbrev pub next_number : ℕ → List ℕ
next_number n = comma ∷ decimal n

abbrev pub next_cell : Cell → List ℕ
next_cell cell = comma ∷ cell_text cell

-- the cells of a row's key as they are shown
abbrev pub next_cells : List Key → List Cell → List ℕ
next_cells keys cells = flat_map next_cell (shown_cells keys cells)

-- what the lines of the rows of an interval begin with
abbrev pub interval_texts : Intervals → PlanValue → ℕ → List ℕ
interval_texts intervals plan interval = decimal (first_in intervals plan interval) ++ next_number (last_in intervals plan interval)
