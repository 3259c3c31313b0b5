-- The tables of parts, as their receipts say them.
use Rattle.std.specs.Prelude.{◌≡◌, ◌<◌, ◌≤◌, ℕ, ◌+◌, List, [], ◌∷◌, ◌++◌, length, sum_by}
use Rattle.sha2.specs.Sha256.{sha256}
use Rattle.receipt_merging.specs.Parts.{PartValue}
use Rattle.table_parts.specs.declared.files.PartFiles.{PartFiles}
use Rattle.table_parts.specs.declared.tables.PartTable.{PartTable}

-- the table of a part, as its receipt says it
abbrev pub said_by : PartFiles → PartValue → PartTable
said_by files part = record { files = files; inputs = length part.receipt.inputs; octets = part.receipt.table.octets; sha256 = part.receipt.table.digest }

abbrev pub tables_said : List PartFiles → List PartValue → List PartTable
tables_said [] parts = []
tables_said (files ∷ all) [] = []
tables_said (files ∷ all) (part ∷ parts) = said_by files part ∷ tables_said all parts

-- a text has the octets and the digest that the receipt says
pub record IsItsTable (table : PartTable) (text : List ℕ) : Type 0 where
  pub octets : table.octets ≡ length text
  pub digest : table.sha256 ≡ sha256 text

-- ---- whose an input is

-- how many inputs the receipts of tables tell
abbrev pub inputs_before : List PartTable → ℕ
inputs_before tables = sum_by (λ (table : PartTable). table.inputs) tables

-- the input at a place, counted from 0 over all tables, is one of the table of this number, counted from 1
pub record HasInput (tables : List PartTable) (place number : ℕ) (files : PartFiles) : Type 0 where
  pub before : List PartTable
  pub table : PartTable
  pub later : List PartTable
  pub are : tables ≡ before ++ table ∷ later
  pub numbered : number ≡ length before + 1
  pub of : files ≡ table.files
  pub from : inputs_before before ≤ place
  pub to : place < inputs_before before + table.inputs
