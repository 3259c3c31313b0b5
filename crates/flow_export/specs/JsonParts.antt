-- The parts of a row's object, as they are appended.
use Rattle.std.specs.Prelude.{◌≡◌, ℕ, List, ◌++◌, codes, flat_map, map}
use Rattle.std.specs.List.{zip}
use Rattle.std.specs.declared.alloc.Global.{Global}
use Rattle.std.specs.declared.vec.Vec.{Vec}
use Rattle.ipfix_elements.specs.JsonValues.{json_cell, json_number}
use Rattle.ipfix_elements.specs.declared.cell.Cell.{Cell}
use Rattle.flow_table.specs.declared.key.Key.{Key}
use Rattle.flow_table.specs.Plans.{PlanValue}
use Rattle.flow_export.specs.CsvText.{counter_texts, key_texts}
use Rattle.flow_export.specs.Intervals.{first_in, last_in}
use Rattle.flow_export.specs.Shown.{shown_cells}
use Rattle.flow_export.specs.declared.intervals.Intervals.{Intervals}
use Rattle.flow_export.specs.declared.json_text.labels.MemberLabel.{MemberLabel}
use Rattle.flow_export.specs.declared.json_text.labels.RowLabels.{RowLabels}

-- what stands before the value of a member that isn't the first
abbrev pub label : List ℕ → List ℕ
label name = codes ",\"" ++ (name ++ codes "\":")

abbrev pub text_of : MemberLabel → List ℕ
text_of made = made.text.items

-- the labels of names, in their order
abbrev pub AreLabelsOf : List (List ℕ) → Vec MemberLabel Global → Type 0
AreLabelsOf names labels = map text_of labels.items ≡ map label names

-- the labels of a plan's keys and counters, by the names that elements have there
pub record AreLabels (plan : PlanValue) (labels : RowLabels) : Type 0 where
  pub keys : AreLabelsOf (key_texts labels.elements.now plan.keys) labels.keys
  pub counters : AreLabelsOf (counter_texts labels.elements.now plan.counters) labels.counters

-- a value after its label
abbrev pub labelled : {X : Type 0} → (X → List ℕ) → MemberLabel × X → List ℕ
labelled value pair = text_of pair.0 ++ value pair.1

-- a cell after its label
abbrev pub labelled_cell : MemberLabel → Cell → List ℕ
labelled_cell label cell = labelled json_cell (label, cell)

-- the cells of a row's key as they are shown, each after its label
abbrev pub key_members : List MemberLabel → List Key → List Cell → List ℕ
key_members labels keys cells = flat_map (labelled json_cell) (zip labels (shown_cells keys cells))

-- numbers, each after its label
abbrev pub labelled_numbers : List MemberLabel → List ℕ → List ℕ
labelled_numbers labels numbers = flat_map (labelled json_number) (zip labels numbers)

-- what the objects of the rows of an interval begin with
abbrev pub interval_members : Intervals → PlanValue → ℕ → List ℕ
interval_members intervals plan interval =
    (codes "{\"start\":" ++ json_number (first_in intervals plan interval)) ++ (codes ",\"end\":" ++ json_number (last_in intervals plan interval))
