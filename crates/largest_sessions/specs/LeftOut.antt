-- Which sessions are left out of a table, so that each of its numbers has a place in 64 bits: as long as some number is
-- too large, the session that has most of the first one.
use Rattle.std.specs.Prelude.{◌≡◌, ℕ, zero, suc, ◌+◌, ◌^◌, ◌<◌, ◌≤◌, List, [], ◌∷◌, length, slice_index_or}
use Rattle.std.specs.declared.cmp.Ordering.TheVariants.{Less}
use Rattle.ipfix_elements.specs.declared.cell.Cell.{Cell}
use Rattle.flow_table.specs.Tables.{place_cmp}

-- an interval and a key
abbrev pub Place : Type 0
Place = ℕ × List Cell

-- what a session has at each place: the sums of the counters in the order of the plan, and then the number of flows
abbrev pub Numbers : Type 0
Numbers = Place → ℕ → ℕ

-- a session that has nothing
abbrev pub nothing : Numbers
nothing p n = 0

-- what sessions have together
abbrev pub together : List Numbers → Place → ℕ → ℕ
together [] p n = 0
together (session ∷ sessions) p n = session p n + together sessions p n

-- what the session of an index has
abbrev pub own : List Numbers → ℕ → Place → ℕ → ℕ
own sessions i p n = slice_index_or sessions i nothing p n

-- each of so many numbers at a place has room in 64 bits
abbrev pub FitAt : ℕ → List Numbers → Place → Type 0
FitAt count sessions p = (n : ℕ) → n < count → together sessions p n < 2 ^ 64

-- the first number that is too large, by the order of the table's rows, and in a row by the order of its numbers
pub record IsFirstTooLarge (count : ℕ) (sessions : List Numbers) (p : Place) (n : ℕ) : Type 0 where
  pub counted : n < count
  pub large : 2 ^ 64 ≤ together sessions p n
  pub row : (q : Place) → place_cmp q p ≡ Less → FitAt count sessions q
  pub number : (m : ℕ) → m < n → together sessions p m < 2 ^ 64

-- the session that has most of it, the first of several
pub record IsLargest (sessions : List Numbers) (p : Place) (n i : ℕ) : Type 0 where
  pub inside : i < length sessions
  pub most : (j : ℕ) → j < length sessions → own sessions j p n ≤ own sessions i p n
  pub first : (j : ℕ) → j < i → own sessions j p n < own sessions i p n

-- the session that is left out next
pub record GoesNext (count : ℕ) (sessions : List Numbers) (i : ℕ) : Type 0 where
  pub place : Place
  pub number : ℕ
  pub too_large : IsFirstTooLarge count sessions place number
  pub largest : IsLargest sessions place number i

-- with nothing of the session of an index, the others as they were
abbrev pub without : ℕ → List Numbers → List Numbers
without i [] = []
without zero (session ∷ sessions) = nothing ∷ sessions
without (suc i) (session ∷ sessions) = session ∷ without i sessions

-- the indices of the sessions that are left out, one after another, until each number has a place
abbrev pub AreLeftOut : ℕ → List Numbers → List ℕ → Type 0
AreLeftOut count sessions [] = (p : Place) → FitAt count sessions p
AreLeftOut count sessions (i ∷ out) = GoesNext count sessions i × AreLeftOut count (without i sessions) out
