-- A sorted list rises by key.
use Rattle.std.proofs.Common.{◌≡◌, ℕ, suc, ◌+◌, ◌<◌, ◌≤◌, false, List, [], ◌∷◌, length, get_or, arith, subst}
use Rattle.std.specs.Ordering.{is_lt}
use Rattle.std.specs.List.Sorted.{IsSortedBy}
use Rattle.flow_rows.specs.Rows.{Row, words_cmp}
use Rattle.flow_rows.specs.Folded.{RisesFrom, Rises}

-- at any default
rises_along : (x : Row) (xs : List Row) → ((k : ℕ) (d : Row) → 0 ≤ k → k + 1 < length (x ∷ xs) → is_lt (words_cmp (get_or (x ∷ xs) (k + 1) d).key (get_or (x ∷ xs) k d).key) ≡ false) → RisesFrom x.key xs
rises_along x [] h = tt
rises_along x (y ∷ ys) h = (h 0 x (omega arith) (omega arith), rises_along y ys (λ k d l m. let e : suc k + 1 ≡ suc (k + 1) = omega arith in subst (λ (n : ℕ). is_lt (words_cmp (get_or (x ∷ y ∷ ys) n d).key (get_or (y ∷ ys) k d).key) ≡ false) e (h (suc k) d (omega arith) (omega arith))))

pub rises_from_sort : (xs : List Row) → IsSortedBy (λ (x y : Row). is_lt (words_cmp x.key y.key)) xs → Rises xs
rises_from_sort [] h = tt
rises_from_sort (x ∷ xs) h = rises_along x xs h
