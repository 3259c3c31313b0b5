-- How many records of a list lack what a plan asks of them: a time, a key or a counter.
use Rattle.std.specs.Prelude.{◌≡◌, ℕ, zero, suc, ◌+◌, ◌-◌, ◌^◌, ◌<◌, ◌==◌, ◌&&◌, min, Bool, false, is_none, is_some, if◌then◌else◌, List, [], ◌∷◌, length, map, filter, All, Option, Some, None, option_map}
use Rattle.std.specs.List.{range_with_len}
use Rattle.ipfix_wire.specs.declared.specifier.ElementId.{ElementId}
use Rattle.ipfix_elements.specs.declared.kind.Kind.{Kind}
use Rattle.ipfix_message.specs.declared.record.DataRecord.{DataRecord}
use Rattle.flow_table.specs.declared.class.Class.TheVariants.{Untimed, Unkeyed, Used}
use Rattle.flow_table.specs.declared.key.Key.{Key}
use Rattle.flow_table.specs.declared.missing.Missing.{Missing}
use Rattle.flow_table.specs.declared.plan.TheConstants.{MAX_KEYS, MAX_COUNTERS}
use Rattle.flow_table.specs.Plans.{PlanValue}
use Rattle.flow_table.specs.Reading.{class_of, is_class, start_of, cell_of, number_of}
use Rattle.flow_table.specs.Totals.{added}

-- how many records of a list a test holds for
unfoldable pub how_many : (DataRecord → Bool) → List DataRecord → ℕ
how_many test rs = length (filter test rs)

-- an untimed record without a start
abbrev pub lacks_start : PlanValue → DataRecord → Bool
lacks_start plan r = is_class Untimed (class_of plan r) && is_none (start_of plan.choices.times r)

-- an untimed record with a start: without an end
abbrev pub lacks_end : PlanValue → DataRecord → Bool
lacks_end plan r = is_class Untimed (class_of plan r) && is_some (start_of plan.choices.times r)

-- the place of the first key that a record has no cell of, from 0
abbrev pub first_without : List Key → List Kind → DataRecord → Option ℕ
first_without (key ∷ keys) (kind ∷ kinds) r = if is_none (cell_of key kind r) then Some 0 else option_map (λ (k : ℕ). suc k) (first_without keys kinds r)
first_without keys kinds r = None

abbrev pub is_place : ℕ → Option ℕ → Bool
is_place k None = false
is_place k (Some place) = k == place

-- an unkeyed record whose first missing key is the k-th one, from 0
abbrev pub lacks_key : PlanValue → ℕ → DataRecord → Bool
lacks_key plan k r = is_class Unkeyed (class_of plan r) && is_place k (first_without plan.keys plan.kinds r)

-- the c-th of some elements, from 0, is missing in a record, or its field holds no number
abbrev pub is_absent_at : List ElementId → ℕ → DataRecord → Bool
is_absent_at [] c r = false
is_absent_at (element ∷ elements) zero r = is_none (number_of element r)
is_absent_at (element ∷ elements) (suc c) r = is_absent_at elements c r

-- a used record whose c-th counter is missing or absent, so that it counts 0
abbrev pub lacks_counter : PlanValue → ℕ → DataRecord → Bool
lacks_counter plan c r = is_class Used (class_of plan r) && is_absent_at plan.counters c r

-- a number for each of so many places
abbrev pub by_place : ℕ → (ℕ → ℕ) → List ℕ
by_place n f = map f (range_with_len 0 n)

-- the records of a list that lack a time, each key and each counter, by its place in the plan
unfoldable pub missing_of : PlanValue → List DataRecord → Missing
missing_of plan rs = record {
  start = how_many (lacks_start plan) rs;
  end = how_many (lacks_end plan) rs;
  keys = by_place MAX_KEYS (λ k. how_many (lacks_key plan k) rs);
  counters = by_place MAX_COUNTERS (λ c. how_many (lacks_counter plan c) rs);
}

-- ---- sums

-- what would be 2^64 or more stays below it
abbrev pub capped : ℕ → ℕ
capped n = min n (2 ^ 64 - 1)

-- of two lists of records
abbrev pub missing_sum : Missing → Missing → Missing
missing_sum a b = record {
  start = a.start + b.start;
  end = a.end + b.end;
  keys = added a.keys b.keys;
  counters = added a.counters b.counters;
}

-- each count has a place in 64 bits
pub record IsSmall (m : Missing) : Type 0 where
  pub start : m.start < 2 ^ 64
  pub end : m.end < 2 ^ 64
  pub keys : All (λ n. n < 2 ^ 64) m.keys
  pub counters : All (λ n. n < 2 ^ 64) m.counters

-- what two lists lack is added, if that has a place in 64 bits
abbrev pub AreAdded : Missing → Missing → Missing → Type 0
AreAdded a b sum = IsSmall (missing_sum a b) → sum ≡ missing_sum a b
