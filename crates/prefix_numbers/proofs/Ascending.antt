-- Places in numbers that ascend.
use Rattle.std.proofs.Common.{◌≡◌, ℕ, ◌+◌, ◌-◌, ◌<◌, ◌≤◌, Bool, true, false, List, drop, length, get_or, slice_range, inl, inr, sym, ap, ◌∙◌, refl, arith, length-drop, length-take}
use Rattle.std.specs.Prelude.{nat_lt, nat_le}
use Rattle.std.specs.List.{prefix_len}
use Rattle.std.specs.List.Sorted.{IsNonDecreasing, IsPartitionPoint}
use Rattle.std.proofs.lemmas.Bool.{cases_Bool, ltb-true, ltb-false, leb-true, leb-false, lt-ltb, le-leb}
use Rattle.std.proofs.lemmas.List.{get_or-drop, get_or-take}
use Rattle.std.proofs.lemmas.List.Sorted.{IsNonDecreasingBy-drop, IsNonDecreasingBy-take}
use Rattle.std.proofs.lemmas.List.Sums.{prefix_len_is, prefix_len_passes, prefix_len_stops, prefix_len-le-length}

-- two tests that follow from one another give one answer
pub same_answer : (a b : Bool) → (a ≡ true → b ≡ true) → (b ≡ true → a ≡ true) → a ≡ b
same_answer true b there back = sym (there refl)
same_answer false true there back = back refl
same_answer false false there back = refl

-- what a partition point is
pub point_is : (p : ℕ → Bool) (xs : List ℕ) (i : ℕ) → i ≤ length xs → IsPartitionPoint (λ y. p y ≡ true) (λ y. p y ≡ false) xs i → i ≡ prefix_len p xs
point_is p xs i inside h = sym (prefix_len_is p xs i 0 inside (λ k below. h.0 k 0 (omega arith) below) (λ more. h.1 i 0 (omega arith) more))

-- ---- how many numbers are below another

below_place : (xs : List ℕ) (t k : ℕ) → k < prefix_len (λ x. nat_lt x t) xs → get_or xs k 0 < t
below_place xs t k h = ltb-true _ _ (prefix_len_passes (λ x. nat_lt x t) xs k 0 h)

above_place : (xs : List ℕ) (t k : ℕ) → IsNonDecreasing xs → k < length xs → prefix_len (λ x. nat_lt x t) xs ≤ k → t ≤ get_or xs k 0
above_place xs t k up inside h =
    let first : t ≤ get_or xs (prefix_len (λ x. nat_lt x t) xs) 0 = ltb-false _ _ (prefix_len_stops (λ x. nat_lt x t) xs 0 (omega (arith, inside, h))) in
    let later : get_or xs (prefix_len (λ x. nat_lt x t) xs) 0 ≤ get_or xs k 0 = up (prefix_len (λ x. nat_lt x t) xs) k 0 h inside in
    omega (arith, first, later)

-- the number at a place is below another just where the place is one of those
pub place_below : (xs : List ℕ) (t k : ℕ) → IsNonDecreasing xs → k < length xs → nat_lt k (prefix_len (λ x. nat_lt x t) xs) ≡ nat_lt (get_or xs k 0) t
place_below xs t k up inside =
    same_answer _ _ (λ is. lt-ltb _ _ (below_place xs t k (ltb-true _ _ is)))
    (λ is. let small : get_or xs k 0 < t = ltb-true _ _ is in
    elim (cases_Bool (nat_lt k (prefix_len (λ x. nat_lt x t) xs))) [
      | inl is_so ↦ is_so
      | inr not_so ↦ let large : t ≤ get_or xs k 0 = above_place xs t k up inside (ltb-false _ _ not_so) in absurd (omega (arith, small, large))
    ])

pub place_not_below : (xs : List ℕ) (t k : ℕ) → IsNonDecreasing xs → k < length xs → nat_le (prefix_len (λ x. nat_lt x t) xs) k ≡ nat_le t (get_or xs k 0)
place_not_below xs t k up inside =
    same_answer _ _ (λ is. le-leb _ _ (above_place xs t k up inside (leb-true _ _ is)))
    (λ is. let large : t ≤ get_or xs k 0 = leb-true _ _ is in
    elim (cases_Bool (nat_le (prefix_len (λ x. nat_lt x t) xs) k)) [
      | inl is_so ↦ is_so
      | inr not_so ↦ let small : get_or xs k 0 < t = below_place xs t k (leb-false _ _ not_so) in absurd (omega (arith, small, large))
    ])

-- ---- how many are not above another

pub up_to_place : (xs : List ℕ) (t k : ℕ) → k < prefix_len (λ x. nat_le x t) xs → get_or xs k 0 ≤ t
up_to_place xs t k h = leb-true _ _ (prefix_len_passes (λ x. nat_le x t) xs k 0 h)

pub place_up_to : (xs : List ℕ) (t k : ℕ) → IsNonDecreasing xs → k < length xs → get_or xs k 0 ≤ t → k < prefix_len (λ x. nat_le x t) xs
place_up_to xs t k up inside small =
    elim (cases_Bool (nat_lt k (prefix_len (λ x. nat_le x t) xs))) [
      | inl is_so ↦ ltb-true _ _ is_so
      | inr not_so ↦
          let ends : prefix_len (λ x. nat_le x t) xs ≤ k = ltb-false _ _ not_so in
          let first : t < get_or xs (prefix_len (λ x. nat_le x t) xs) 0 = leb-false _ _ (prefix_len_stops (λ x. nat_le x t) xs 0 (omega (arith, inside, ends))) in
          let later : get_or xs (prefix_len (λ x. nat_le x t) xs) 0 ≤ get_or xs k 0 = up (prefix_len (λ x. nat_le x t) xs) k 0 ends inside in
          absurd (omega (arith, first, later, small))
    ]

-- so the first ones are as many as are before a place where one of them is, and at most as many as are before another
pub places_up_to : (xs : List ℕ) (t k : ℕ) → IsNonDecreasing xs → k - 1 < length xs → get_or xs (k - 1) 0 ≤ t → k ≤ prefix_len (λ x. nat_le x t) xs
places_up_to xs t k up inside small = let last = place_up_to xs t (k - 1) up inside small in omega (arith, last)

pub places_not_above : (xs : List ℕ) (t k : ℕ) → t < get_or xs k 0 → prefix_len (λ x. nat_le x t) xs ≤ k
places_not_above xs t k large =
    elim (cases_Bool (nat_lt k (prefix_len (λ x. nat_le x t) xs))) [
      | inl is_so ↦ let small : get_or xs k 0 ≤ t = up_to_place xs t k (ltb-true _ _ is_so) in absurd (omega (arith, small, large))
      | inr not_so ↦ ltb-false _ _ not_so
    ]

pub places_inside : (xs : List ℕ) (t : ℕ) → prefix_len (λ x. nat_le x t) xs ≤ length xs
places_inside xs t = prefix_len-le-length (λ x. nat_le x t) xs

-- ---- counting among some of them

at_range : (xs : List ℕ) (low high k : ℕ) → low + k < high → get_or (slice_range xs low high) k 0 ≡ get_or xs (low + k) 0
at_range xs low high k inside = get_or-take (high - low) (drop low xs) k 0 (omega (arith, inside)) ∙ get_or-drop low xs k 0

-- those that pass are the ones before a place, and those from there to another, if they end between both
counted_between : (p : ℕ → Bool) (xs : List ℕ) (low high : ℕ) → low ≤ prefix_len p xs → prefix_len p xs ≤ high → high ≤ length xs → low + prefix_len p (slice_range xs low high) ≡ prefix_len p xs
counted_between p xs low high below above inside =
    let long : length (slice_range xs low high) ≡ high - low = omega (arith, length-take (high - low) (drop low xs), length-drop low xs, inside) in
    let back : low + (prefix_len p xs - low) ≡ prefix_len p xs = omega (arith, below) in
    let part = prefix_len_is p (slice_range xs low high) (prefix_len p xs - low) 0 (omega (arith, long, above))
    (λ k k_below. ap p (at_range xs low high k (omega (arith, k_below, above))) ∙ prefix_len_passes p xs (low + k) 0 (omega (arith, k_below)))
    (λ more. ap p (at_range xs low high (prefix_len p xs - low) (omega (arith, more, long, back)) ∙ ap (λ k. get_or xs k 0) back) ∙ prefix_len_stops p xs 0 (omega (arith, more, long, inside))) in
    omega (arith, part, below)

pub point_between : (p : ℕ → Bool) (xs : List ℕ) (low high i : ℕ) → low ≤ prefix_len p xs → prefix_len p xs ≤ high → high ≤ length xs → i ≤ length (slice_range xs low high)
    → IsPartitionPoint (λ y. p y ≡ true) (λ y. p y ≡ false) (slice_range xs low high) i → low + i ≡ prefix_len p xs
point_between p xs low high i below above inside within h = ap (λ n. low + n) (point_is p (slice_range xs low high) i within h) ∙ counted_between p xs low high below above inside

pub range_ascends : (xs : List ℕ) (low high : ℕ) → IsNonDecreasing xs → IsNonDecreasing (slice_range xs low high)
range_ascends xs low high up = IsNonDecreasingBy-take (λ (x : ℕ). x) (high - low) (drop low xs) (IsNonDecreasingBy-drop (λ (x : ℕ). x) low xs up)
