-- What flows with the same key add up to in an interval.
use Rattle.std.specs.Prelude.{ℕ, ◌+◌, ◌^◌, ◌≤◌, ◌⊎◌, List, [], ◌∷◌, Option, Some, None}

-- the sums of the counters' shares, and the number of flows
pub record Total : Type 0 where
  pub sums : List ℕ
  pub flows : ℕ

abbrev pub total : List ℕ → ℕ → Total
total sums flows = record { sums = sums; flows = flows }

-- place by place
abbrev pub added : List ℕ → List ℕ → List ℕ
added [] ys = []
added (x ∷ xs) [] = x ∷ xs
added (x ∷ xs) (y ∷ ys) = (x + y) ∷ added xs ys

abbrev pub sum_of : Total → Total → Total
sum_of a b = total (added a.sums b.sums) (a.flows + b.flows)

-- together, if there are any
abbrev pub joined : Option Total → Option Total → Option Total
joined a None = a
joined None (Some b) = Some b
joined (Some a) (Some b) = Some (sum_of a b)

-- some number has no place in 64 bits
abbrev pub HasLarge : List ℕ → Type 0
HasLarge [] = ⊥
HasLarge (x ∷ xs) = (2 ^ 64 ≤ x) ⊎ HasLarge xs

abbrev pub IsLarge : Total → Type 0
IsLarge t = HasLarge t.sums ⊎ (2 ^ 64 ≤ t.flows)

abbrev pub IsLargeAt : Option Total → Type 0
IsLargeAt None = ⊥
IsLargeAt (Some t) = IsLarge t
