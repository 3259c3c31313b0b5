-- Rows that are made one after another.
use Rattle.std.specs.Prelude.{◌≡◌, ◌<◌, List, [], ◌∷◌, length, drop, Option, MatchOption}
use denote.Bor.{Bor}
use Rattle.flow_table.specs.SameTables.{RowValue, value_of}
use Rattle.flow_table.specs.declared.table.Row.{Row}

-- the first of the rows that are left, if there is one
abbrev pub IsMade : Row → List RowValue → Type 0
IsMade row left = 0 < length left → left ≡ value_of row ∷ drop 1 left

-- what was answered for the first of them
abbrev pub IsFirst : Option (Bor Row) → List RowValue → Type 0
IsFirst found left = MatchOption found (left ≡ []) (λ row. left ≡ value_of row.now ∷ drop 1 left)
