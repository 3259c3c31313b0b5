-- A walk over the rows of all tables at once, in their order.
use Rattle.std.specs.Prelude.{◌≡◌, ℕ, ◌^◌, ◌<◌, ◌≤◌, List, [], ◌∷◌, ◌++◌, length, map, slice_index_or, sum_by, All, Option, None, Some, if◌then◌else◌}
use Rattle.std.specs.List.Sorted.{IsStrictlySortedBy}
use Rattle.std.specs.Ordering.{is_eq}
use Rattle.std.specs.declared.cmp.Ordering.TheVariants.{Less}
use Rattle.flow_table.specs.AddedUp.{place}
use Rattle.flow_table.specs.SameTables.{RowValue}
use Rattle.flow_table.specs.Tables.{place_cmp}
use Rattle.largest_sessions.specs.LeftOut.{Place, AreLeftOut}
use Rattle.largest_sessions.specs.SessionNumbers.{by_rows, number_at}

-- the rows of a table that are still to come
abbrev pub Rows : Type 0
Rows = List RowValue

abbrev pub Ascend : Rows → Type 0
Ascend rows = IsStrictlySortedBy place_cmp (map place rows)

-- a row is the first
pub record StartsWith (row : RowValue) (rows : Rows) : Type 0 where
  pub others : Rows
  pub are : rows ≡ row ∷ others

-- what the first of some rows has at a place
abbrev pub first_number : Rows → Place → ℕ → ℕ
first_number [] p n = 0
first_number (row ∷ rows) p n = number_at row p n

-- what the first rows of all tables have there together
abbrev pub first_numbers : List Rows → Place → ℕ → ℕ
first_numbers all p n = sum_by (λ (rows : Rows). first_number rows p n) all

-- each of so many of these numbers has a place in 64 bits
abbrev pub FirstsFit : ℕ → List Rows → Place → Type 0
FirstsFit count all p = (m : ℕ) → m < count → first_numbers all p m < 2 ^ 64

-- the first row, if there is one, isn't before a place
abbrev pub IsNotBefore : Place → Rows → Type 0
IsNotBefore p [] = Unit {0}
IsNotBefore p (row ∷ rows) = place_cmp (place row) p ≡ Less → ⊥

-- a place is before the first row
abbrev pub IsBefore : Place → Rows → Type 0
IsBefore p [] = ⊥
IsBefore p (row ∷ rows) = place_cmp p (place row) ≡ Less

-- the first row is at a place
abbrev pub StartsAt : Place → Rows → Type 0
StartsAt p [] = ⊥
StartsAt p (row ∷ rows) = place row ≡ p

-- of so many tables one has its first row at the first place of all
pub record StartsFirst (all : List Rows) (count i : ℕ) : Type 0 where
  pub place : Place
  pub inside : i < count
  pub starts : StartsAt place (slice_index_or all i [])
  pub first : (j : ℕ) → j < count → IsNotBefore place (slice_index_or all j [])

-- the same, or there is no row
abbrev pub IsFirstOf : List Rows → ℕ → Option ℕ → Type 0
IsFirstOf all count None = (j : ℕ) → j < count → slice_index_or all j [] ≡ []
IsFirstOf all count (Some i) = StartsFirst all count i

-- of so many tables one has a first row with most at a place, the first of several
pub record HasMost (all : List Rows) (count : ℕ) (p : Place) (n i : ℕ) : Type 0 where
  pub inside : i < count
  pub most : (j : ℕ) → j < count → first_number (slice_index_or all j []) p n ≤ first_number (slice_index_or all i []) p n
  pub first : (j : ℕ) → j < i → first_number (slice_index_or all j []) p n < first_number (slice_index_or all i []) p n

-- the rows after the first, if that is at a place, otherwise all
abbrev pub after_place : Place → Rows → Rows
after_place p [] = []
after_place p (row ∷ rows) = if is_eq (place_cmp p (place row)) then rows else row ∷ rows

-- ---- a step

-- the session that was left out, if one was
abbrev pub list_of : Option ℕ → List ℕ
list_of None = []
list_of (Some i) = i ∷ []

-- how many rows are still to come
abbrev pub rows_left : List Rows → ℕ
rows_left all = sum_by length all

-- there are fewer rows, and what is left out of them is what is left out of those before after this session, if one was left out
pub record Continues (count : ℕ) (before after : List Rows) (went : Option ℕ) : Type 0 where
  pub ascend : All Ascend after
  pub fewer : rows_left after < rows_left before
  pub more : (out : List ℕ) → AreLeftOut count (map by_rows after) out → AreLeftOut count (map by_rows before) (list_of went ++ out)

-- what is left out of some rows is what was left out before, and then what is left out of the rows still to come
pub record Walked (count : ℕ) (begins all : List Rows) (out : List ℕ) : Type 0 where
  pub ascend : All Ascend all
  pub more : (rest : List ℕ) → AreLeftOut count (map by_rows all) rest → AreLeftOut count (map by_rows begins) (out ++ rest)
