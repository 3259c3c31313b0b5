-- The rows of a table, made one after another.
use Rattle.std.proofs.Common.{◌≡◌, ℕ, ◌+◌, ◌<◌, List, ◌∷◌, length, drop, get_or, sym, ap, ◌∙◌, arith}
use Rattle.std.proofs.lemmas.List.{drop-drop, drop_more, length-map}
use Rattle.flow_table.specs.AddedUp.{rows_in}
use Rattle.flow_table.specs.SameTables.{RowValue, value_of}
use Rattle.flow_table.specs.declared.table.Row.{Row}
use Rattle.flow_table.specs.declared.table.Table.{Table}
use Rattle.flow_export.specs.Made.{IsMade}

pub made_at : (table : Table) (i : ℕ) (row : Row) → i < length table.rows.items → ((d : RowValue) → value_of row ≡ get_or (rows_in table) i d) → IsMade row (drop i (rows_in table))
made_at table i row inside is = λ some.
    drop_more (rows_in table) i (value_of row) (omega (arith, length-map table.rows.items value_of, inside))
    ∙ ap (λ (v : RowValue). v ∷ drop (i + 1) (rows_in table)) (sym (is (value_of row)))
    ∙ ap (λ (vs : List RowValue). value_of row ∷ vs) (sym (drop-drop 1 i (rows_in table)))

pub one_passed : (table : Table) (i : ℕ) (left : List RowValue) → drop i (rows_in table) ≡ left → drop (i + 1) (rows_in table) ≡ drop 1 left
one_passed table i left is = sym (drop-drop 1 i (rows_in table)) ∙ ap (drop 1) is
