-- Rows and tables by their values, and the rows that words and numbers stand for.
use Rattle.std.specs.Prelude.{◌≡◌, ℕ, suc, List, map, drop, slice_index_or}
use Rattle.std.specs.Global.{Global}
use Rattle.flow_rows.specs.Rows.{Row as FlatRow}
use Rattle.ipfix_elements.specs.declared.kind.Kind.{Kind}
use Rattle.flow_table.specs.declared.missing.Missing.{Missing}
use Rattle.flow_table.specs.declared.run.Run.{Run}
use Rattle.flow_table.specs.declared.run.Run.TheVariants.{Two, Four, Six, Nine, Most}
use Rattle.flow_table.specs.declared.table.Row.{Row}
use Rattle.flow_table.specs.declared.table.Table.{Table}
use Rattle.flow_table.specs.declared.tally.Tally.{Tally}
use Rattle.flow_table.specs.SameTables.{RowValue, row_value, value_of}
use Rattle.flow_table.specs.Vectors.{vec_of}
use Rattle.flow_table.specs.Words.{first_of, key_from}

-- the row that says this
abbrev pub row_of : Global → RowValue → Row
row_of alloc row = record { interval = row.interval; key = vec_of alloc row.key; sums = vec_of alloc row.sums; flows = row.flows }

-- the table of these rows
abbrev pub table_of : Global → List RowValue → Tally → Missing → Table
table_of alloc rows tally missing = record { rows = vec_of alloc (map (row_of alloc) rows); tally = tally; missing = missing }

-- what words and numbers say under these kinds and so many counters
abbrev pub value_from : List Kind → ℕ → FlatRow → RowValue
value_from kinds n x = row_value (slice_index_or x.key 0 0) (key_from kinds (drop 1 x.key)) (first_of n (λ i. slice_index_or x.numbers (suc i) 0)) (slice_index_or x.numbers 0 0)

-- a row says what words and numbers do
abbrev pub IsRowFrom : List Kind → ℕ → Row → FlatRow → Type 0
IsRowFrom kinds n row x = value_of row ≡ value_from kinds n x

abbrev pub run_in : Run → List FlatRow
run_in (Two rows) = rows.items
run_in (Four rows) = rows.items
run_in (Six rows) = rows.items
run_in (Nine rows) = rows.items
run_in (Most rows) = rows.items

-- the rows of a run
abbrev pub run_values : List Kind → ℕ → Run → List RowValue
run_values kinds n run = map (value_from kinds n) (run_in run)
