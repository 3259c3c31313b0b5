-- How a table that was made again differs from what a receipt says.
use Rattle.std.specs.Prelude.{◌==◌, ◌&&◌, bytes_eq, not, ℕ, Bool, true, false, List, [], ◌∷◌, ◌++◌, codes, if◌then◌else◌}
use Rattle.table_receipts.specs.Values.{FileValue, ReceiptValue}
use Rattle.receipt_differences.specs.DifferenceLines.{named_line, other_line, other_unless}
use Rattle.receipt_differences.specs.Differences.{counts_differ, rows_differ}
use Rattle.receipt_differences.specs.Inputs.{inputs_differ}

abbrev pub bool_same : Bool → Bool → Bool
bool_same true said = said
bool_same false said = not said

-- a table that inputs were left out of isn't complete, whatever the others gave
abbrev pub complete_with : Bool → List (List ℕ) → Bool
complete_with complete [] = complete
complete_with complete (name ∷ names) = false

-- by its receipt: its inputs, its records, its rows, and whether it is complete
abbrev pub remade_differs : ReceiptValue → ReceiptValue → List ℕ
remade_differs found said =
    inputs_differ said.inputs found.inputs
    ++ (counts_differ found.records said.records
    ++ (rows_differ found.table said.table
    ++ other_unless (bool_same (complete_with found.complete said.left_out) said.complete) (codes "complete")))

abbrev pub again_line : List ℕ
again_line = codes "collectd: verify: table: made again, it is another\n"

-- by its text, from a table that is there
abbrev pub text_differs : List ℕ → List ℕ → List ℕ
text_differs found table = if bytes_eq found table then [] else again_line

-- ---- files of elements, and of maps

-- the same octets, by their number and digest
abbrev pub file_same : FileValue → FileValue → Bool
file_same f g = (f.octets == g.octets) && bytes_eq f.digest g.digest

abbrev pub files_same : List FileValue → List FileValue → Bool
files_same [] [] = true
files_same [] (g ∷ gs) = false
files_same (f ∷ fs) [] = false
files_same (f ∷ fs) (g ∷ gs) = file_same f g && files_same fs gs

abbrev pub elements_differ : List FileValue → List FileValue → List ℕ
elements_differ found said = other_unless (files_same found said) (codes "files of elements")

-- of a map that has its place; the name is the one in the receipt
abbrev pub map_differs : FileValue → FileValue → List ℕ
map_differs found said = if file_same found said then [] else named_line (codes "map") said.name (codes ": not that of the receipt\n")

abbrev pub maps_differ : List FileValue → List FileValue → List ℕ
maps_differ [] [] = []
maps_differ [] (s ∷ ss) = other_line (codes "files of maps")
maps_differ (f ∷ fs) [] = other_line (codes "files of maps")
maps_differ (f ∷ fs) (s ∷ ss) = map_differs f s ++ maps_differ fs ss
