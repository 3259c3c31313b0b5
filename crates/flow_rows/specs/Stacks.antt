-- Runs that lie on a stack, and a buffer beside them.
use Rattle.std.specs.Prelude.{ℕ, ◌+◌, ◌^◌, ◌<◌, ◌≤◌, List, [], ◌∷◌, ◌++◌, sum_by}
use Rattle.std.specs.Global.{Vec}
use Rattle.std.specs.List.{All}
use Rattle.flow_rows.specs.Rows.{Row, Counted, IsRun, Small, total_at}

-- the number at a place of a key, over all runs
abbrev pub stack_total : List (Vec Row) → List ℕ → ℕ → ℕ
stack_total runs q i = sum_by (λ (r : Vec Row). total_at r.items q i) runs

abbrev pub AreRuns : List (Vec Row) → Type 0
AreRuns runs = All (λ (r : Vec Row). IsRun r.items) runs

-- the same, with the rows that wait
abbrev pub held_total : List Row → List (Vec Row) → List ℕ → ℕ → ℕ
held_total buffer runs q i = total_at buffer q i + stack_total runs q i

abbrev pub rows_of : List (Vec Row) → List Row
rows_of [] = []
rows_of (r ∷ rs) = r.items ++ rows_of rs

-- all rows of a table
abbrev pub all_rows : List Row → List (Vec Row) → List Row
all_rows buffer runs = buffer ++ rows_of runs

-- what holds between the parts of a pile
pub record Holds (buffer : List Row) (runs : List (Vec Row)) (bound : ℕ) : Type 0 where
  pub runs_are : AreRuns runs
  pub counted : Counted buffer
  pub small : bound < 2 ^ 64
  pub within : (q : List ℕ) (i : ℕ) → held_total buffer runs q i ≤ bound

-- what holds between a table's pile and the runs that lie apart from it
pub record HoldsApart (pile : List Row) (apart : List (Vec Row)) : Type 0 where
  pub runs_are : AreRuns apart
  pub small : Small (held_total pile apart)
