-- What one flow adds to the totals.
use Rattle.std.specs.Prelude.{◌≡◌, ◌≢◌, ℕ, ◌+◌, ◌^◌, ◌<◌, ◌&&◌, nat_eq, nat_le, nat_lt, Bool, if◌then◌else◌, List, map, Option, Some, None, Result}
use Rattle.std.specs.List.{list_any, range_with_len}
use Rattle.ipfix_elements.specs.declared.cell.Cell.{Cell}
use Rattle.flow_table.specs.declared.adding.Room.{Room}
use Rattle.flow_table.specs.declared.flow.Flow.{Flow}
use Rattle.flow_table.specs.declared.rows.Rows.{Rows}
use Rattle.flow_table.specs.declared.table_fault.TableFault.{TableFault}
use Rattle.flow_table.specs.Intervals.{covers, share}
use Rattle.flow_table.specs.Plans.{PlanValue}
use Rattle.flow_table.specs.Rows.{AddsIfOk, AreRowsOf, kept_at, part_at, place_part}
use Rattle.flow_table.specs.TableFaults.{OnSumTooLarge}
use Rattle.flow_table.specs.Totals.{IsLargeAt, Total, joined, total}
use Rattle.flow_table.specs.Words.{key_words}

-- the intervals that a flow contributes to; one alone gets all of each counter
pub record HasIntervals (plan : PlanValue) (flow : Flow) : Type 0 where
  pub covers : covers plan flow.span.start flow.span.end ≡ range_with_len flow.first flow.count
  pub fits : flow.first + flow.count < 2 ^ 64
  pub alone : flow.count ≡ 1 → (n : ℕ) → share plan flow.span.start flow.span.end n flow.first ≡ n

-- the shares of the counters of a flow from start to end at interval k
abbrev pub shares_of : PlanValue → ℕ → ℕ → List ℕ → ℕ → List ℕ
shares_of plan start end counters k = map (λ value. share plan start end value k) counters

-- those of a flow at one of its intervals, unless that is the only one
abbrev pub AreShares : PlanValue → Flow → List ℕ → ℕ → List ℕ → Type 0
AreShares plan flow counters k shares = flow.count ≢ 1 → shares ≡ shares_of plan flow.span.start flow.span.end counters k

-- what the flow adds to the totals there
unfoldable pub flow_total : PlanValue → ℕ → ℕ → List ℕ → ℕ → Total
flow_total plan start end counters k = total (shares_of plan start end counters k) 1

-- what the flow adds at an interval and a key
unfoldable pub flow_part : PlanValue → ℕ → ℕ → List Cell → List ℕ → ℕ → List Cell → Option Total
flow_part plan start end key counters k q =
    if list_any (nat_eq k) (covers plan start end) then part_at key (flow_total plan start end counters k) q else None

-- k is an interval from the first one on and below another
unfoldable pub is_in_run : ℕ → ℕ → ℕ → Bool
is_in_run first end k = nat_le first k && nat_lt k end

-- totals at each of these intervals and one key alone
abbrev pub run_part : ℕ → ℕ → List Cell → (ℕ → Total) → ℕ → List Cell → Option Total
run_part first end key f k q = if is_in_run first end k then part_at key (f k) q else None

-- ---- a flow whose key and counters were read

-- what it adds at one of its intervals
abbrev pub read_total : PlanValue → Flow → Room → ℕ → Total
read_total plan flow room k = flow_total plan flow.span.start flow.span.end room.counters.items k

-- what it adds at an interval and a key, under this key
abbrev pub read_part : PlanValue → Flow → Room → List Cell → ℕ → List Cell → Option Total
read_part plan flow room key k q = flow_part plan flow.span.start flow.span.end key room.counters.items k q

-- what it adds at one of its intervals alone
abbrev pub read_at : ℕ → PlanValue → Flow → Room → List Cell → ℕ → List Cell → Option Total
read_at interval plan flow room key k q = place_part interval key (read_total plan flow room interval) k q

-- there is an interval that was added to last, and of it this holds
abbrev pub AtLast : Room → (ℕ → Type 0) → Type 0
AtLast room P = (k : ℕ) × (room.last ≡ Some k) × P k

-- for the key whose words were read; and with rows of the plan
abbrev pub ForKey : PlanValue → Room → (List Cell → Type 0) → Type 0
ForKey plan room P = (key : List Cell) → key_words plan.kinds key ≡ Some room.words.items → P key

abbrev pub WithKey : PlanValue → Rows → Room → (List Cell → Type 0) → Type 0
WithKey plan rows room P = ForKey plan room (λ key. AreRowsOf plan rows → P key)

-- unless it fails, these parts of what was read are added
abbrev pub AddsRead : {X : Type 0} → (PlanValue → Flow → Room → List Cell → ℕ → List Cell → Option Total) → Result X TableFault → PlanValue → Rows → Flow → Room → Rows → Type 0
AddsRead parts result plan old flow room new = ForKey plan room (λ key. AddsIfOk result plan old (parts plan flow room key) new)

-- a sum is too large only where the totals at the interval that was added to last have no place in 64 bits with these parts
abbrev pub LargeAtLast : {X : Type 0} → (PlanValue → Flow → Room → List Cell → ℕ → List Cell → Option Total) → Result X TableFault → PlanValue → Rows → Flow → Room → Room → Type 0
LargeAtLast parts result plan old flow before after =
    WithKey plan old before (λ key. OnSumTooLarge result (AtLast after (λ k. IsLargeAt (joined (kept_at plan old k key) (parts plan flow before key k key)))))
