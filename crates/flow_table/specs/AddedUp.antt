-- Rows added up: rows of the same interval and key become one, with their sums and numbers of flows added.
use Rattle.std.specs.Prelude.{◌≡◌, ℕ, ◌^◌, ◌≤◌, ◌⊎◌, List, [], ◌∷◌, map, flat_map, Contains, Option, Some, None, if◌then◌else◌}
use Rattle.std.specs.List.{AllZip}
use Rattle.std.specs.List.Sorted.{IsStrictlySortedBy}
use Rattle.std.specs.Ordering.{nat_cmp, is_eq}
use Rattle.ipfix_wire.specs.declared.specifier.ElementId.{ElementId}
use Rattle.ipfix_elements.specs.declared.cell.Cell.{Cell}
use Rattle.ipfix_message.specs.declared.record.DataRecord.{DataRecord}
use Rattle.flow_table.specs.declared.table.Table.{Table}
use Rattle.flow_table.specs.Plans.{PlanValue}
use Rattle.flow_table.specs.SameTables.{RowValue, value_of}
use Rattle.flow_table.specs.Tables.{key_cmp, place_cmp, flows_at, sum_at, IsTable}
use Rattle.flow_table.specs.Totals.{Total, total, joined, IsLargeAt}

-- where a row stands: by interval, and then by key
abbrev pub place : RowValue → ℕ × List Cell
place row = (row.interval, row.key)

-- its sums and its number of flows
abbrev pub total_of : RowValue → Total
total_of row = total row.sums row.flows

-- what it has at an interval and a key: its totals if they are its own, otherwise nothing
abbrev pub part_of : RowValue → ℕ → List Cell → Option Total
part_of row k key = if is_eq (nat_cmp k row.interval) then (if is_eq (key_cmp key row.key) then Some (total_of row) else None) else None

-- what rows have there, one after another, added to what there is before them
abbrev pub added_to : Option Total → List RowValue → ℕ → List Cell → Option Total
added_to before [] k key = before
added_to before (row ∷ rows) k key = added_to (joined before (part_of row k key)) rows k key

-- what all rows of an interval and a key add up to, if there are any
unfoldable pub added_up : List RowValue → ℕ → List Cell → Option Total
added_up rows k key = added_to None rows k key

-- rows in order that have at each interval and key what the rows add up to there
pub record AreAddedUp (rows merged : List RowValue) : Type 0 where
  pub ascending : IsStrictlySortedBy place_cmp (map place merged)
  pub same : (k : ℕ) (key : List Cell) → added_up merged k key ≡ added_up rows k key

-- some sum or number of flows that rows add up to has no place in 64 bits
abbrev pub AddUpTooLarge : List RowValue → Type 0
AddUpTooLarge rows = (k : ℕ) × (key : List Cell) × IsLargeAt (added_up rows k key)

-- ---- tables

-- the rows of a table
abbrev pub rows_in : Table → List RowValue
rows_in table = map value_of table.rows.items

-- the records of lists, one list after another
abbrev pub all_records : List (List DataRecord) → List DataRecord
all_records lists = flat_map (λ rs. rs) lists

-- for all lists of records whose tables these are
abbrev pub ForListsOf : PlanValue → List Table → (List (List DataRecord) → Type 0) → Type 0
ForListsOf plan tables P = (lists : List (List DataRecord)) → AllZip (IsTable plan) lists tables → P lists

-- rows are what those of the tables of lists of records add up to
pub record AreRowsOfAll (plan : PlanValue) (lists : List (List DataRecord)) (rows : List RowValue) : Type 0 where
  pub tables : List Table
  pub each : AllZip (IsTable plan) lists tables
  pub sums : AreAddedUp (flat_map rows_in tables) rows

-- some sum or number of flows of a list of records has no place in 64 bits
abbrev pub HasTooLargeRow : PlanValue → List DataRecord → Type 0
HasTooLargeRow plan rs =
    ((k : ℕ) × (key : List Cell) × (c : ElementId) × Contains plan.counters c × (2 ^ 64 ≤ sum_at plan rs k key c))
    ⊎ ((k : ℕ) × (key : List Cell) × (2 ^ 64 ≤ flows_at plan rs k key))
