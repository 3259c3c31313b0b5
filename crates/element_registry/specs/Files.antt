-- The elements that are known after a file.
use Rattle.std.specs.Prelude.{ℕ, nat_lt, List, [], ◌∷◌, ◌++◌, length, find, map, All, Option, Some, None, is_some, Result, Ok, Err, if◌then◌else◌, ◌≡◌}
use Rattle.csv.specs.Reading.{AreRecords, default_config, strip_bom}
use Rattle.csv.specs.Records.{fields_of}
use Rattle.csv.specs.declared.parser.State.TheVariants.{StartRecord}
use Rattle.element_registry.specs.declared.columns.Columns.{Columns}
use Rattle.element_registry.specs.declared.fault.Heading.TheVariants as headings
use Rattle.element_registry.specs.declared.fault.ElementsFault.{ElementsFault}
use Rattle.element_registry.specs.declared.fault.ElementsFault.TheVariants.{Column, NumberTwice, NameTwice, TooMany, OutOfMemory}
use Rattle.element_registry.specs.declared.rows.Row.{Row}
use Rattle.element_registry.specs.TextLines.{BeginsAt, line_at}
use Rattle.element_registry.specs.Faults.{Read, fault_of}
use Rattle.element_registry.specs.declared.fault.ElementsError.{ElementsError}
use Rattle.element_registry.specs.declared.added.Added.{Added}
use Rattle.element_registry.specs.Registries.{Known, is_of, element_by_name}
use Rattle.element_registry.specs.Rows.{and_then, columns_in, entry_in, has_unknown_type}

abbrev pub fields_in : Row → List (List ℕ)
fields_in row = fields_of row.record

-- the records of a text of comma-separated values, its first line among them, each with a place of the text
pub record AreRows (text : List ℕ) (rows : List Row) : Type 0 where
  pub records : AreRecords default_config StartRecord (strip_bom text) (map fields_in rows)
  pub places : All (λ row. BeginsAt text row.place) rows

-- as many elements of files are kept
abbrev pub most : ℕ
most = 16384

-- an element that is known already, and a name that names an element already, are refused
abbrev pub with_entry : List Known → Known → Read (List Known)
with_entry known k =
    if is_some (find (is_of k.element) known) then Err NumberTwice
    else if is_some (element_by_name known k.name) then Err NameTwice
    else if nat_lt (length known) most then Ok (known ++ k ∷ [])
    else Err TooMany

abbrev pub with_entry_if : List Known → Option Known → Read (List Known)
with_entry_if known None = Ok known
with_entry_if known (Some k) = with_entry known k

abbrev pub with_row : Columns → List Known → List (List ℕ) → Read (List Known)
with_row at known row = and_then (entry_in at row) (with_entry_if known)

-- row after row, up to the first with a fault
abbrev pub with_rows : Columns → List Known → List Row → Read (List Known)
with_rows at known [] = Ok known
with_rows at known (row ∷ rows) = and_then (with_row at known (fields_in row)) (λ more. with_rows at more rows)

-- what is known after a file: its first record names its columns
abbrev pub with_file : List Known → List Row → Read (List Known)
with_file known [] = Err (Column headings.Number)
with_file known (heading ∷ rows) = and_then (columns_in (fields_in heading)) (λ at. with_rows at known rows)

-- ---- lines

-- what follows a value that was read, or else this line
abbrev pub unless : {X Y : Type 0} → Y → Read X → (X → Y) → Y
unless line (Ok x) after = after x
unless line (Err fault) after = line

module _ (text : List ℕ) where
  -- the line of the first row with a fault
  abbrev pub fault_line : Columns → List Known → List Row → ℕ
  fault_line at known [] = 0
  fault_line at known (row ∷ rows) = unless (line_at text row.place) (with_row at known (fields_in row)) (λ more. fault_line at more rows)

  -- and of a file: a missing column is missing on its first line
  abbrev pub file_line : List Known → List Row → ℕ
  file_line known [] = 1
  file_line known (heading ∷ rows) = unless 1 (columns_in (fields_in heading)) (λ at. fault_line at known rows)

  -- the line of the first row with a type that is not known
  abbrev pub unknown_line : Columns → List Row → Option ℕ
  unknown_line at [] = None
  unknown_line at (row ∷ rows) = if has_unknown_type at (fields_in row) then Some (line_at text row.place) else unknown_line at rows

  -- and of a file
  abbrev pub unknown_in : List Row → Option ℕ
  unknown_in [] = None
  unknown_in (heading ∷ rows) = unless None (columns_in (fields_in heading)) (λ at. unknown_line at rows)

-- ---- what is answered

-- the fault is what reading gives, at this line; nothing is said of want of memory
abbrev pub FailsAt : {X : Type 0} → ElementsFault → ℕ → Read X → ℕ → Type 0
FailsAt OutOfMemory line read at = Unit {0}
FailsAt fault line read at = (read ≡ Err fault) × (line ≡ at)

-- what was answered of rows, as elements or with the rows' types
abbrev pub GivesAt : Result (List Known) ElementsError → Read (List Known) → ℕ → Type 0
GivesAt (Ok known) read line = read ≡ Ok known
GivesAt (Err error) read line = FailsAt (fault_of error) error.line read line

abbrev pub IsOfBody : List ℕ → Columns → List Known → List Row → Result Added ElementsError → Type 0
IsOfBody text at known rows (Ok added) = (with_rows at known rows ≡ Ok added.elements) × (added.unknown_type ≡ unknown_line text at rows)
IsOfBody text at known rows (Err error) = FailsAt (fault_of error) error.line (with_rows at known rows) (fault_line text at known rows)

-- what was answered of a file with these rows
abbrev pub IsOfRows : List ℕ → List Known → List Row → Result Added ElementsError → Type 0
IsOfRows text known rows (Ok added) = (with_file known rows ≡ Ok added.elements) × (added.unknown_type ≡ unknown_in text rows)
IsOfRows text known rows (Err error) = FailsAt (fault_of error) error.line (with_file known rows) (file_line text known rows)

-- a file with this text has the fault, at this line; nothing is said of want of memory
abbrev pub FailsOn : List Known → List ℕ → ElementsFault → ℕ → Type 0
FailsOn known text OutOfMemory line = Unit {0}
FailsOn known text fault line = (rows : List Row) × AreRows text rows × (with_file known rows ≡ Err fault) × (line ≡ file_line text known rows)

-- what was answered of a file with this text
abbrev pub IsOfText : List Known → List ℕ → Result Added ElementsError → Type 0
IsOfText known text (Ok added) = (rows : List Row) × AreRows text rows × IsOfRows text known rows (Ok added)
IsOfText known text (Err error) = FailsOn known text (fault_of error) error.line
