-- A table as CSV (RFC 4180, section 2), with a line feed alone at the end of each line.
use Rattle.std.specs.Prelude.{◌≡◌, ℕ, List, [], ◌∷◌, ◌++◌, map, flat_map, codes, Option, Some, None, unwrap_or}
use Rattle.std.specs.Fmt.{decimal}
use Rattle.std.specs.List.{join_with_byte}
use Rattle.csv.specs.Writing.{default_writer, row_text}
use Rattle.ipfix_wire.specs.declared.specifier.ElementId.{ElementId}
use Rattle.ipfix_elements.specs.Texts.{cell_text}
use Rattle.element_registry.specs.Registries.{Known, element_name}
use Rattle.flow_table.specs.declared.key.Key.{Key}
use Rattle.flow_table.specs.Plans.{PlanValue, context_name}
use Rattle.flow_table.specs.SameTables.{RowValue}
use Rattle.flow_export.specs.Intervals.{first_in, last_in}
use Rattle.flow_export.specs.Shown.{shown_cells}
use Rattle.flow_export.specs.declared.intervals.Intervals.{Intervals}
use Rattle.flow_export.specs.declared.intervals.Intervals.TheVariants.{OfPlan}

-- the first and the last millisecond of the interval of a row of a plan's table
abbrev pub first_of : PlanValue → RowValue → ℕ
first_of plan row = first_in OfPlan plan row.interval

abbrev pub last_of : PlanValue → RowValue → ℕ
last_of plan row = last_in OfPlan plan row.interval

abbrev pub comma : ℕ
comma = 44

abbrev pub line_feed : ℕ
line_feed = 10

-- fields with commas between them, and the end of the line
abbrev pub line : List (List ℕ) → List ℕ
line fields = join_with_byte comma fields ++ line_feed ∷ []

-- a key by its element's name, and a slash and the prefix if it has one
abbrev pub prefix_text : Option ℕ → List ℕ
prefix_text None = []
prefix_text (Some bits) = codes "/" ++ decimal bits

-- an element of context has its own name, whatever files say
abbrev pub key_name : List Known → ElementId → List ℕ
key_name known e = unwrap_or (context_name e) (element_name known e)

abbrev pub key_text : List Known → Key → List ℕ
key_text known key = key_name known key.element ++ prefix_text key.prefix

abbrev pub key_texts : List Known → List Key → List (List ℕ)
key_texts known keys = map (key_text known) keys

abbrev pub counter_texts : List Known → List ElementId → List (List ℕ)
counter_texts known counters = map (element_name known) counters

-- the names of the fields
abbrev pub heading : List Known → PlanValue → List (List ℕ)
heading known plan = codes "start" ∷ codes "end" ∷ (key_texts known plan.keys ++ (counter_texts known plan.counters ++ codes "flows" ∷ []))

-- `csv` writes these fields as they stand: none needs quotes (RFC 4180, section 2)
abbrev pub IsUnquoted : List (List ℕ) → Type 0
IsUnquoted fields = row_text default_writer fields ≡ line fields

-- the line of names, in quotes where they need it: none does (`nothing_is_quoted`)
abbrev pub heading_line : List Known → PlanValue → List ℕ
heading_line known plan = row_text default_writer (heading known plan)

-- the fields of a row: its interval, its key, its sums and the number of its flows
abbrev pub row_texts_in : Intervals → PlanValue → RowValue → List (List ℕ)
row_texts_in intervals plan row =
    decimal (first_in intervals plan row.interval) ∷ decimal (last_in intervals plan row.interval) ∷ (map cell_text (shown_cells plan.keys row.key) ++ (map decimal row.sums ++ decimal row.flows ∷ []))

abbrev pub row_line_in : Intervals → PlanValue → RowValue → List ℕ
row_line_in intervals plan row = line (row_texts_in intervals plan row)

-- a line of names, and then a line for each row
abbrev pub csv_text_in : Intervals → List Known → PlanValue → List RowValue → List ℕ
csv_text_in intervals known plan rows = heading_line known plan ++ flat_map (row_line_in intervals plan) rows

-- those of a plan's table
abbrev pub row_texts : PlanValue → RowValue → List (List ℕ)
row_texts = row_texts_in OfPlan

abbrev pub row_line : PlanValue → RowValue → List ℕ
row_line = row_line_in OfPlan

abbrev pub csv_text : List Known → PlanValue → List RowValue → List ℕ
csv_text = csv_text_in OfPlan
