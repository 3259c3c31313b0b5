-- Rows: the words of a key, and the numbers that are added up for it.
use Rattle.std.specs.Prelude.{◌≡◌, ℕ, ◌+◌, ◌^◌, ◌<◌, ◌≤◌, List, [], ◌∷◌, cond, sum_by, slice_index_or}
use Rattle.std.specs.List.{All}
use Rattle.std.specs.Ordering.{is_eq, nat_cmp}
use Rattle.std.specs.declared.cmp.Ordering.{Ordering}
use Rattle.std.specs.declared.cmp.Ordering.TheVariants.{Less}
use Rattle.std.specs.Cmp.Lexicographic.{slice_cmp}

pub record Row : Type 0 where
  pub key : List ℕ
  pub numbers : List ℕ

abbrev pub row : List ℕ → List ℕ → Row
row key numbers = record { key = key; numbers = numbers }

abbrev pub words_cmp : List ℕ → List ℕ → Ordering
words_cmp = slice_cmp nat_cmp

-- place by place; a number that one of them lacks is 0
abbrev pub added : List ℕ → List ℕ → List ℕ
added [] ys = ys
added (x ∷ xs) [] = x ∷ xs
added (x ∷ xs) (y ∷ ys) = (x + y) ∷ added xs ys

-- two rows of one key
abbrev pub row_sum : Row → Row → Row
row_sum a b = row a.key (added a.numbers b.numbers)

-- what a row adds to the number at a place of a key
abbrev pub part : List ℕ → ℕ → Row → ℕ
part q i x = cond (is_eq (words_cmp x.key q)) (slice_index_or x.numbers i 0) 0

-- the number at a place of a key, over all rows
abbrev pub total_at : List Row → List ℕ → ℕ → ℕ
total_at xs q i = sum_by (part q i) xs

-- no number of any key reaches 2^64
abbrev pub Small : (List ℕ → ℕ → ℕ) → Type 0
Small total = (q : List ℕ) (i : ℕ) → total q i < 2 ^ 64

-- some of these numbers does
abbrev pub SomeTooLarge : (ℕ → ℕ) → Type 0
SomeTooLarge f = (i : ℕ) × (2 ^ 64 ≤ f i)

-- a key is below those of all rows
abbrev pub Above : List ℕ → List Row → Type 0
Above k [] = Unit {0}
Above k (x ∷ xs) = (words_cmp k x.key ≡ Less) × Above k xs

-- strictly, by key
abbrev pub Ascends : List Row → Type 0
Ascends [] = Unit {0}
Ascends (x ∷ xs) = Above x.key xs × Ascends xs

-- the first number of each row is above 0
abbrev pub Counted : List Row → Type 0
Counted xs = All (λ (x : Row). 0 < slice_index_or x.numbers 0 0) xs

-- rows that ascend by key, so that each key has one at most, and whose first numbers are above 0
unfoldable pub IsRun : List Row → Type 0
IsRun xs = Ascends xs × Counted xs
