-- What sessions have at each place, by their records and by the rows of their tables.
use Rattle.std.specs.Prelude.{ℕ, ◌+◌, List, [], ◌∷◌, ◌++◌, length, map, slice_index_or, if◌then◌else◌}
use Rattle.std.specs.Ordering.{is_eq}
use Rattle.ipfix_message.specs.declared.record.DataRecord.{DataRecord}
use Rattle.flow_table.specs.AddedUp.{place}
use Rattle.flow_table.specs.Plans.{PlanValue}
use Rattle.flow_table.specs.SameTables.{RowValue}
use Rattle.flow_table.specs.Tables.{place_cmp, flows_at, sum_at}
use Rattle.largest_sessions.specs.LeftOut.{AreLeftOut, Numbers, Place}

-- how many numbers a row has: a sum of each counter, and its flows
abbrev pub numbers_of_plan : PlanValue → ℕ
numbers_of_plan plan = length plan.counters + 1

-- by its records: the sum of each counter, and how many flows there are
abbrev pub by_records : PlanValue → List DataRecord → Numbers
by_records plan rs p n = slice_index_or (map (sum_at plan rs p.0 p.1) plan.counters ++ flows_at plan rs p.0 p.1 ∷ []) n 0

-- of sessions with these records those of these indices are left out
abbrev pub AreLeftOutOf : PlanValue → List ℕ → List (List DataRecord) → Type 0
AreLeftOutOf plan out lists = AreLeftOut (numbers_of_plan plan) (map (by_records plan) lists) out

-- a row's
abbrev pub number_of : RowValue → ℕ → ℕ
number_of row n = slice_index_or (row.sums ++ row.flows ∷ []) n 0

-- what a row has at a place: its number if it is there, otherwise nothing
abbrev pub number_at : RowValue → Place → ℕ → ℕ
number_at row p n = if is_eq (place_cmp p (place row)) then number_of row n else 0

-- by the rows of its table
abbrev pub by_rows : List RowValue → Numbers
by_rows [] p n = 0
by_rows (row ∷ rows) p n = number_at row p n + by_rows rows p n
