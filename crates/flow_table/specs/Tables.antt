-- The aggregate of a list of data records (RFC 7015, section 5): sums and numbers of flows, and the table of them.
use Rattle.std.specs.Prelude.{◌≡◌, ℕ, ◌^◌, ◌<◌, ◌≤◌, ◌⊎◌, ◌&&◌, Bool, false, nat_eq, List, length, map, filter, sum_by, All, Contains, Option, Some, None, unwrap_or}
use Rattle.std.specs.List.{list_any}
use Rattle.std.specs.List.Sorted.{IsStrictlySortedBy}
use Rattle.std.specs.Cmp.Lexicographic.{slice_cmp}
use Rattle.std.specs.Ordering.{nat_cmp, ordering_then, is_eq}
use Rattle.std.specs.declared.cmp.Ordering.{Ordering}
use Rattle.ipfix_wire.specs.declared.specifier.ElementId.{ElementId}
use Rattle.ipfix_elements.specs.declared.cell.Cell.{Cell}
use Rattle.ipfix_elements.specs.Cells.{cell_cmp}
use Rattle.ipfix_message.specs.declared.record.DataRecord.{DataRecord}
use Rattle.flow_table.specs.declared.class.Class.{Class}
use Rattle.flow_table.specs.declared.class.Class.TheVariants.{Options, Untimed, Backward, Unkeyed, TooLong, Used}
use Rattle.flow_table.specs.declared.missing.Missing.{Missing}
use Rattle.flow_table.specs.declared.table.Row.{Row}
use Rattle.flow_table.specs.declared.table.RowPlace.{RowPlace}
use Rattle.flow_table.specs.declared.table.Table.{Table}
use Rattle.flow_table.specs.declared.tally.Tally.{Tally}
use Rattle.flow_table.specs.Intervals.{covers, share}
use Rattle.flow_table.specs.Missing.{missing_of}
use Rattle.flow_table.specs.Plans.{PlanValue}
use Rattle.flow_table.specs.Reading.{class_of, is_class, start_of, end_of, key_of, counter_of}

-- ---- classes

-- how many records of a list are of a class
unfoldable pub count_of : PlanValue → List DataRecord → Class → ℕ
count_of plan rs class = length (filter (λ r. is_class class (class_of plan r)) rs)

abbrev pub tally_of : PlanValue → List DataRecord → Tally
tally_of plan rs = record {
  options = count_of plan rs Options;
  untimed = count_of plan rs Untimed;
  backward = count_of plan rs Backward;
  unkeyed = count_of plan rs Unkeyed;
  too_long = count_of plan rs TooLong;
  used = count_of plan rs Used;
}

-- for what the records of each list lack under each plan, and their tally
abbrev pub ForCounts : (PlanValue → Missing → Tally → Type 0) → Type 0
ForCounts P = (plan : PlanValue) (rs : List DataRecord) → P plan (missing_of plan rs) (tally_of plan rs)

-- ---- the flows of an interval and a key

-- the start and the end of a record that has both
abbrev pub begin_of : PlanValue → DataRecord → ℕ
begin_of plan r = unwrap_or (start_of plan.choices.times r) 0

abbrev pub finish_of : PlanValue → DataRecord → ℕ
finish_of plan r = unwrap_or (end_of plan.choices.times r) 0

-- keys are compared cell by cell
abbrev pub key_cmp : List Cell → List Cell → Ordering
key_cmp = slice_cmp cell_cmp

abbrev pub is_key : List Cell → Option (List Cell) → Bool
is_key key None = false
is_key key (Some found) = is_eq (key_cmp key found)

-- a record contributes to an interval and a key if it is used, is given to the interval, and has the key
unfoldable pub contributes : PlanValue → ℕ → List Cell → DataRecord → Bool
contributes plan k key r = is_class Used (class_of plan r) && list_any (nat_eq k) (covers plan (begin_of plan r) (finish_of plan r)) && is_key key (key_of plan r)

-- what an interval gets of a record's counter
unfoldable pub share_of : PlanValue → ℕ → ElementId → DataRecord → ℕ
share_of plan k c r = share plan (begin_of plan r) (finish_of plan r) (counter_of c r) k

-- the sum of the shares of a counter over all records that contribute to an interval and a key
unfoldable pub sum_at : PlanValue → List DataRecord → ℕ → List Cell → ElementId → ℕ
sum_at plan rs k key c = sum_by (share_of plan k c) (filter (contributes plan k key) rs)

-- the number of these records
unfoldable pub flows_at : PlanValue → List DataRecord → ℕ → List Cell → ℕ
flows_at plan rs k key = length (filter (contributes plan k key) rs)

-- ---- the table

-- some sum, number of flows or count of a class has no place in 64 bits
abbrev pub IsTooLarge : PlanValue → List DataRecord → Type 0
IsTooLarge plan rs =
    ((k : ℕ) × (key : List Cell) × (c : ElementId) × Contains plan.counters c × (2 ^ 64 ≤ sum_at plan rs k key c))
    ⊎ ((k : ℕ) × (key : List Cell) × (2 ^ 64 ≤ flows_at plan rs k key))
    ⊎ ((class : Class) × (2 ^ 64 ≤ count_of plan rs class))

-- some sum or the number of flows of the row of an interval and a key has no place in 64 bits
abbrev pub IsTooLargeAt : PlanValue → List DataRecord → ℕ → List Cell → Type 0
IsTooLargeAt plan rs k key =
    ((c : ElementId) × Contains plan.counters c × (2 ^ 64 ≤ sum_at plan rs k key c))
    ⊎ (2 ^ 64 ≤ flows_at plan rs k key)

abbrev pub IsLargeRow : PlanValue → List DataRecord → RowPlace → Type 0
IsLargeRow plan rs row = IsTooLargeAt plan rs row.interval row.key.items

-- there are too many records of some class to be counted
abbrev pub AreTooMany : PlanValue → List DataRecord → Type 0
AreTooMany plan rs = (class : Class) × (2 ^ 64 ≤ count_of plan rs class)

-- where a row stands: by interval, and then by key
abbrev pub place_of : Row → ℕ × List Cell
place_of row = (row.interval, row.key.items)

abbrev pub place_cmp : ℕ × List Cell → ℕ × List Cell → Ordering
place_cmp a b = ordering_then (nat_cmp a.0 b.0) (key_cmp a.1 b.1)

-- a row that some flow contributes to, with the sums of all counters and the number of flows
pub record IsRow (plan : PlanValue) (rs : List DataRecord) (row : Row) : Type 0 where
  pub some : 0 < flows_at plan rs row.interval row.key.items
  pub sums : row.sums.items ≡ map (sum_at plan rs row.interval row.key.items) plan.counters
  pub flows : row.flows ≡ flows_at plan rs row.interval row.key.items

-- the rows of all intervals and keys that some flow contributes to, in order, the records by class, and what they lack
pub record IsTable (plan : PlanValue) (rs : List DataRecord) (table : Table) : Type 0 where
  pub ascending : IsStrictlySortedBy place_cmp (map place_of table.rows.items)
  pub rows : All (IsRow plan rs) table.rows.items
  pub complete : (k : ℕ) (key : List Cell) → 0 < flows_at plan rs k key → Contains (map place_of table.rows.items) (k, key)
  pub tally : table.tally ≡ tally_of plan rs
  pub missing : table.missing ≡ missing_of plan rs
