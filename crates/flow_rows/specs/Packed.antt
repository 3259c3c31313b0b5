-- Keys packed into numbers, each with the place of its row below it.
use Rattle.std.specs.Prelude.{◌≡◌, ℕ, ◌+◌, ◌-◌, ◌*◌, ◌/◌, ◌%◌, ◌<◌, ◌≤◌, List, [], ◌∷◌, length, map, slice_index_or}
use Rattle.std.specs.List.{All}
use Rattle.std.specs.List.Sorted.{IsPermutation}
use Rattle.flow_rows.specs.Rows.{Row, row}
use Rattle.flow_rows.specs.Folded.{Rises}

-- the halves of a word
abbrev pub high : ℕ → ℕ
high w = w / 4294967296

abbrev pub low : ℕ → ℕ
low w = w % 4294967296

-- each half of a word is from the least to the greatest
pub record IsBetween (least most w : ℕ) : Type 0 where
  pub high_from : high least ≤ high w
  pub high_to : high w ≤ high most
  pub low_from : low least ≤ low w
  pub low_to : low w ≤ low most

-- those of each word are, of its column
abbrev pub IsWithin : List ℕ → List ℕ → List ℕ → Type 0
IsWithin [] [] [] = Unit {0}
IsWithin (l ∷ ls) (m ∷ ms) (w ∷ ws) = IsBetween l m w × IsWithin ls ms ws
IsWithin ls ms ws = ⊥

-- a number and then a digit, in the base of what there is from the least half to the greatest
abbrev pub digit_onto : ℕ → ℕ → ℕ → ℕ → ℕ
digit_onto n least most half = n * (most - least + 1) + (half - least)

-- a number and then the halves of a word, as digits
abbrev pub word_onto : ℕ → ℕ → ℕ → ℕ → ℕ
word_onto n least most w = digit_onto (digit_onto n (high least) (high most) (high w)) (low least) (low most) (low w)

-- the words as digits, two each, after those that are packed already
abbrev pub packed_onto : ℕ → List ℕ → List ℕ → List ℕ → ℕ
packed_onto n (l ∷ ls) (m ∷ ms) (w ∷ ws) = packed_onto (word_onto n l m w) ls ms ws
packed_onto n ls ms ws = n

abbrev pub row_of : List Row → ℕ → Row
row_of rows at = slice_index_or rows at (row [] [])

-- a number below which the place of a row stands, and above it what the row's key packs to
pub record IsPacked (least most : List ℕ) (rows : List Row) (at x : ℕ) : Type 0 where
  pub place : x % 524288 ≡ at
  pub within : IsWithin least most (row_of rows at).key
  pub words : x / 524288 ≡ packed_onto 0 least most (row_of rows at).key

-- one for each row
pub record ArePacked (least most : List ℕ) (rows : List Row) (xs : List ℕ) : Type 0 where
  pub long : length xs ≡ length rows
  pub each : (k : ℕ) → k < length xs → IsPacked least most rows k (slice_index_or xs k 0)

-- the rows in the order of such numbers
abbrev pub in_order : List Row → List ℕ → List Row
in_order rows xs = map (λ (x : ℕ). row_of rows (x % 524288)) xs

-- all rows, so that no key is below the one before it
pub record IsOrder (rows : List Row) (xs : List ℕ) : Type 0 where
  pub places : All (λ (x : ℕ). x % 524288 < length rows) xs
  pub permutation : IsPermutation rows (in_order rows xs)
  pub rises : Rises (in_order rows xs)
