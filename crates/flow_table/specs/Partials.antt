-- What a partial table stands for: a list of data records.
use Rattle.std.specs.Prelude.{◌≡◌, ℕ, ◌+◌, ◌^◌, ◌<◌, ◌≤◌, ◌==◌, if◌then◌else◌, List, [], ◌∷◌, ◌++◌, map, Option, Some, None, IsSome, Result, OnOk}
use Rattle.ipfix_elements.specs.declared.cell.Cell.{Cell}
use Rattle.ipfix_message.specs.declared.record.DataRecord.{DataRecord}
use Rattle.flow_table.specs.declared.class.Class.{Class}
use Rattle.flow_table.specs.declared.class.Class.TheVariants.{Options, Untimed, Backward, Unkeyed, TooLong, Used}
use Rattle.flow_table.specs.declared.table_fault.TableFault.{TableFault}
use Rattle.flow_table.specs.declared.table_fault.TableFault.TheVariants.{OutOfMemory, SumTooLarge}
use Rattle.flow_table.specs.declared.tally.Tally.{Tally}
use Rattle.flow_table.specs.declared.adding.Room.{Room}
use Rattle.flow_table.specs.declared.missing.Missing.{Missing}
use Rattle.flow_table.specs.declared.partial.Partial.{Partial}
use Rattle.flow_table.specs.Fitting.{KeysFit}
use Rattle.flow_table.specs.Flows.{AtLast}
use Rattle.flow_table.specs.Missing.{missing_of, AreAdded}
use Rattle.flow_table.specs.Plans.{PlanValue}
use Rattle.flow_table.specs.Rows.{AreRowsOf, kept_at}
use Rattle.flow_table.specs.declared.rows.Rows.{Rows}
use Rattle.flow_table.specs.TableFaults.{OnSumTooLarge}
use Rattle.flow_table.specs.Tables.{flows_at, sum_at, tally_of, AreTooMany, IsTooLarge, IsTooLargeAt}
use Rattle.flow_table.specs.Totals.{IsLargeAt, Total, joined, total}
use Rattle.flow_table.specs.Words.{key_from}

-- the totals of the row of an interval and a key, if there is one
unfoldable pub totals_at : PlanValue → List DataRecord → ℕ → List Cell → Option Total
totals_at plan rs k key = if flows_at plan rs k key == 0 then None else Some (total (map (sum_at plan rs k key) plan.counters) (flows_at plan rs k key))

-- those of one record alone
abbrev pub totals_of_one : PlanValue → DataRecord → ℕ → List Cell → Option Total
totals_of_one plan r k key = totals_at plan (r ∷ []) k key

-- the totals and the tally are those of the table of a list that isn't too large, and whose keys fit
pub record HoldsTable (plan : PlanValue) (rows : Rows) (tally : Tally) (rs : List DataRecord) : Type 0 where
  pub of_plan : AreRowsOf plan rows
  pub totals_are : (k : ℕ) (key : List Cell) → kept_at plan rows k key ≡ totals_at plan rs k key
  pub tally_is : tally ≡ tally_of plan rs
  pub small : IsTooLarge plan rs → ⊥
  pub keys_fit : KeysFit plan rs

-- without a fault it holds the table of the list; with SumTooLarge the list is too large; after OutOfMemory it tells nothing of it
abbrev pub StandsBy : Option TableFault → PlanValue → Rows → Tally → List DataRecord → Type 0
StandsBy None plan rows tally rs = HoldsTable plan rows tally rs
StandsBy (Some SumTooLarge) plan rows tally rs = IsTooLarge plan rs
StandsBy (Some OutOfMemory) plan rows tally rs = Unit {0}

-- without a fault the counts are those of what the list lacks
abbrev pub CountsMissing : Option TableFault → PlanValue → Missing → List DataRecord → Type 0
CountsMissing fault plan missing rs = fault ≡ None → missing ≡ missing_of plan rs

-- what more records lack is added, if that has a place in 64 bits
abbrev pub NotesMore : PlanValue → Missing → List DataRecord → Missing → Type 0
NotesMore plan before more after = AreAdded before (missing_of plan more) after

-- the plan of a partial table
unfoldable pub plan_of : Partial → PlanValue
plan_of p = p.plan

-- the fault that it answers
unfoldable pub fault_of : Partial → Option TableFault
fault_of p = p.fault

-- it answers one
abbrev pub Failed : Partial → Type 0
Failed p = IsSome (fault_of p)

-- some number of a list of records under its plan has no place in 64 bits
abbrev pub IsTooLargeFor : Partial → List DataRecord → Type 0
IsTooLargeFor p rs = IsTooLarge (plan_of p) rs

-- the totals of a key that was read have no place in 64 bits at an interval, with those of more
abbrev pub LargeWith : PlanValue → Rows → (ℕ → List Cell → Option Total) → Room → Type 0
LargeWith plan rows more room = AtLast room (λ k. IsLargeAt (joined (kept_at plan rows k (key_from plan.kinds room.words.items)) (more k (key_from plan.kinds room.words.items))))

-- which row of the list is too large, by its interval and the words of its key; without an interval records are too many
abbrev pub IsNamed : PlanValue → Option ℕ → List ℕ → List DataRecord → Type 0
IsNamed plan None words rs = AreTooMany plan rs
IsNamed plan (Some k) words rs = IsTooLargeAt plan rs k (key_from plan.kinds words)

-- after SumTooLarge a row is named
abbrev pub NamesRow : Option TableFault → PlanValue → Room → List DataRecord → Type 0
NamesRow fault plan room rs = fault ≡ Some SumTooLarge → IsNamed plan room.last room.words.items rs

-- a partial table stands for a list of records
unfoldable pub StandsFor : Partial → List DataRecord → Type 0
StandsFor p rs = StandsBy p.fault p.plan p.rows p.tally rs × CountsMissing p.fault p.plan p.missing rs × NamesRow p.fault p.plan p.room rs

-- for each list of records that it stands for; the same, and its plan; and for each two lists of two partial tables, one
-- after the other
abbrev pub ForRecords : Partial → (List DataRecord → Type 0) → Type 0
ForRecords p P = (rs : List DataRecord) → StandsFor p rs → P rs

abbrev pub ForLists : Partial → (PlanValue → List DataRecord → Type 0) → Type 0
ForLists p P = ForRecords p (λ rs. P (plan_of p) rs)

abbrev pub ForBoth : Partial → Partial → (List DataRecord → Type 0) → Type 0
ForBoth p other P = (rs qs : List DataRecord) → StandsFor p rs → StandsFor other qs → P (rs ++ qs)

-- whatever it stood for, afterwards it stands for these records more
abbrev pub Adds : Partial → List DataRecord → Partial → Type 0
Adds before more after = ForRecords before (λ rs. StandsFor after (rs ++ more))

-- if these records are added without a fault, none of the numbers is too large
abbrev pub IsSmallIfOk : {X : Type 0} → Partial → List DataRecord → Result X TableFault → Type 0
IsSmallIfOk before more result = ForRecords before (λ rs. OnOk result (IsTooLargeFor before (rs ++ more) → ⊥))

-- and if they are refused as too large, one is
abbrev pub IsLargeIfSumTooLarge : {X : Type 0} → Partial → List DataRecord → Result X TableFault → Type 0
IsLargeIfSumTooLarge before more result = ForRecords before (λ rs. OnSumTooLarge result (IsTooLargeFor before (rs ++ more)))

-- ---- tallies

abbrev pub tally_sum : Tally → Tally → Tally
tally_sum a b = record {
  options = a.options + b.options;
  untimed = a.untimed + b.untimed;
  backward = a.backward + b.backward;
  unkeyed = a.unkeyed + b.unkeyed;
  too_long = a.too_long + b.too_long;
  used = a.used + b.used;
}

abbrev pub tally : ℕ → ℕ → ℕ → ℕ → ℕ → ℕ → Tally
tally options untimed backward unkeyed too_long used = record { options = options; untimed = untimed; backward = backward; unkeyed = unkeyed; too_long = too_long; used = used }

-- one record
abbrev pub one_of : Class → Tally
one_of Options = tally 1 0 0 0 0 0
one_of Untimed = tally 0 1 0 0 0 0
one_of Backward = tally 0 0 1 0 0 0
one_of Unkeyed = tally 0 0 0 1 0 0
one_of TooLong = tally 0 0 0 0 1 0
one_of Used = tally 0 0 0 0 0 1

abbrev pub count_in : Tally → Class → ℕ
count_in t Options = t.options
count_in t Untimed = t.untimed
count_in t Backward = t.backward
count_in t Unkeyed = t.unkeyed
count_in t TooLong = t.too_long
count_in t Used = t.used

-- the records of some class in two tallies are too many to be counted
abbrev pub AreTooManyTogether : Tally → Tally → Type 0
AreTooManyTogether a b = (class : Class) × (2 ^ 64 ≤ count_in a class + count_in b class)

-- each count has a place in 64 bits
abbrev pub CountsFit : Tally → Type 0
CountsFit t = (class : Class) → count_in t class < 2 ^ 64
