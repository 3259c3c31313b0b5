-- Totals by interval and key, and the rows that they are kept in.
use Rattle.std.specs.Prelude.{◌≡◌, ℕ, suc, ◌+◌, ◌==◌, ◌<◌, ◌≤◌, Bool, List, ◌∷◌, length, Option, Some, None, Result, OnOk, if◌then◌else◌, slice_index_or}
use Rattle.std.specs.Ordering.{nat_cmp, is_eq}
use Rattle.flow_rows.specs.Rows.{Row, SomeTooLarge, part, row, total_at}
use Rattle.ipfix_elements.specs.declared.cell.Cell.{Cell}
use Rattle.flow_table.specs.declared.rows.Rows.{Rows}
use Rattle.flow_table.specs.declared.rows.Rows.TheVariants.{Two, Four, Six, Nine, Most}
use Rattle.flow_table.specs.declared.table_fault.TableFault.{TableFault}
use Rattle.flow_table.specs.Plans.{PlanValue}
use Rattle.flow_table.specs.TableFaults.{OnSumTooLarge}
use Rattle.flow_table.specs.Tables.{key_cmp}
use Rattle.flow_table.specs.Totals.{IsLargeAt, Total, joined, total}
use Rattle.flow_table.specs.Words.{first_of, padded, place_words, word_count}

-- ---- one place alone

abbrev pub is_same_key : List Cell → List Cell → Bool
is_same_key q key = is_eq (key_cmp q key)

abbrev pub is_same_interval : ℕ → ℕ → Bool
is_same_interval k interval = is_eq (nat_cmp k interval)

-- totals at one key alone
abbrev pub part_at : List Cell → Total → List Cell → Option Total
part_at key t q = if is_same_key q key then Some t else None

-- totals at one interval and one key alone
abbrev pub place_part : ℕ → List Cell → Total → ℕ → List Cell → Option Total
place_part interval key t k q = if is_same_interval k interval then part_at key t q else None

-- ---- rows

-- how many words their keys have
abbrev pub width_of : Rows → ℕ
width_of (Two rows) = 2
width_of (Four rows) = 4
width_of (Six rows) = 6
width_of (Nine rows) = 9
width_of (Most rows) = 17

-- how many numbers they have
abbrev pub depth_of : Rows → ℕ
depth_of (Two rows) = 2
depth_of (Four rows) = 2
depth_of (Six rows) = 3
depth_of (Nine rows) = 5
depth_of (Most rows) = 5

abbrev pub rows_in : Rows → List Row
rows_in (Two rows) = rows
rows_in (Four rows) = rows
rows_in (Six rows) = rows
rows_in (Nine rows) = rows
rows_in (Most rows) = rows

-- the number at a place of the words of a key
abbrev pub number_at : Rows → List ℕ → ℕ → ℕ
number_at rows q i = total_at (rows_in rows) q i

-- a row of words and numbers, as rows of so many words and numbers have it
abbrev pub padded_to : ℕ → ℕ → List ℕ → List ℕ → Row
padded_to width depth words numbers = row (padded width words) (padded depth numbers)

abbrev pub row_in : ℕ → ℕ → ℕ → List ℕ → ℕ → List ℕ → Row
row_in width depth interval words flows sums = padded_to width depth (interval ∷ words) (flows ∷ sums)

abbrev pub padded_row : Rows → List ℕ → List ℕ → Row
padded_row rows words numbers = padded_to (width_of rows) (depth_of rows) words numbers

-- numbers by the words of a key and a place: those of two, and whether they are the same
abbrev pub both : (List ℕ → ℕ → ℕ) → (List ℕ → ℕ → ℕ) → List ℕ → ℕ → ℕ
both a b q i = a q i + b q i

abbrev pub SameNumbers : (List ℕ → ℕ → ℕ) → (List ℕ → ℕ → ℕ) → Type 0
SameNumbers a b = (q : List ℕ) (i : ℕ) → a q i ≡ b q i

-- rows have the numbers of two others together; and some number of two at the words of a key has no place in 64 bits together
abbrev pub IsSum : List Row → List Row → List Row → Type 0
IsSum a b sum = SameNumbers (total_at sum) (both (total_at a) (total_at b))

abbrev pub AddTooLarge : List Row → List Row → List ℕ → Type 0
AddTooLarge a b q = SomeTooLarge (both (total_at a) (total_at b) q)

-- some number has no place in 64 bits with a row more
abbrev pub IsTooLargeWithRow : (List ℕ → ℕ → ℕ) → Row → Type 0
IsTooLargeWithRow numbers more = SomeTooLarge (λ i. numbers more.key i + slice_index_or more.numbers i 0)

-- a sum is too large only where some number of rows is, with a row of these words and numbers more
abbrev pub TooLargeWith : {X : Type 0} → Result X TableFault → Rows → List ℕ → List ℕ → Type 0
TooLargeWith result rows words numbers = OnSumTooLarge result (IsTooLargeWithRow (number_at rows) (padded_row rows words numbers))

-- the numbers of one row more
abbrev pub AddsTo : List Row → Row → List Row → Type 0
AddsTo old more new = SameNumbers (total_at new) (both (total_at old) (λ q i. part q i more))

-- the same of rows, and of words and numbers
abbrev pub AddsRow : Rows → List ℕ → List ℕ → Rows → Type 0
AddsRow old words numbers new = AddsTo (rows_in old) (padded_row old words numbers) (rows_in new)

-- rows of the same width and depth
abbrev pub AreAlike : Rows → Rows → Type 0
AreAlike a b = (width_of a ≡ width_of b) × (depth_of a ≡ depth_of b)

-- ---- rows of a plan

-- what numbers say of a place: how many flows, and then their sums
abbrev pub total_of_numbers : ℕ → (ℕ → ℕ) → Option Total
total_of_numbers n f = if f 0 == 0 then None else Some (total (first_of n (λ i. f (suc i))) (f 0))

abbrev pub kept_by : PlanValue → Rows → Option (List ℕ) → Option Total
kept_by plan rows None = None
kept_by plan rows (Some words) = total_of_numbers (length plan.counters) (number_at rows (padded (width_of rows) words))

-- the totals of an interval and a key
unfoldable pub kept_at : PlanValue → Rows → ℕ → List Cell → Option Total
kept_at plan rows k q = kept_by plan rows (place_words plan k q)

-- words of some interval and key
pub record IsPlace (plan : PlanValue) (rows : Rows) (q : List ℕ) : Type 0 where
  pub interval : ℕ
  pub key : List Cell
  pub words : List ℕ
  pub are : place_words plan interval key ≡ Some words
  pub padded_are : q ≡ padded (width_of rows) words

-- rows that have room for what a plan has, and keep nothing else: each key is a place, some flow is counted where there is any
-- number, and there is none after those of the counters
pub record AreRowsOf (plan : PlanValue) (rows : Rows) : Type 0 where
  pub wide : suc (word_count plan.kinds) ≤ width_of rows
  pub deep : suc (length plan.counters) ≤ depth_of rows
  pub places : (q : List ℕ) → 0 < number_at rows q 0 → IsPlace plan rows q
  pub counted : (q : List ℕ) (i : ℕ) → number_at rows q 0 ≡ 0 → number_at rows q i ≡ 0
  pub none_behind : (q : List ℕ) (i : ℕ) → length plan.counters < i → number_at rows q i ≡ 0

-- ---- totals that are added

-- the totals of more were added to those of rows
abbrev pub AddsTotals : PlanValue → Rows → (ℕ → List Cell → Option Total) → Rows → Type 0
AddsTotals plan old more new = (k : ℕ) (q : List Cell) → kept_at plan new k q ≡ joined (kept_at plan old k q) (more k q)

-- unless it fails, more was added to rows of the plan
abbrev pub AddsIfOk : {X : Type 0} → Result X TableFault → PlanValue → Rows → (ℕ → List Cell → Option Total) → Rows → Type 0
AddsIfOk result plan old more new = AreRowsOf plan old → OnOk result (AddsTotals plan old more new)

-- all totals have a place in 64 bits
abbrev pub AreSmall : PlanValue → Rows → Type 0
AreSmall plan rows = (k : ℕ) (q : List Cell) → IsLargeAt (kept_at plan rows k q) → ⊥

-- those that had one have one still
abbrev pub StaySmall : PlanValue → Rows → Rows → Type 0
StaySmall plan old new = (k : ℕ) (q : List Cell) → (IsLargeAt (kept_at plan old k q) → ⊥) → IsLargeAt (kept_at plan new k q) → ⊥
