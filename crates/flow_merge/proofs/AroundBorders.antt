-- Times and the borders around them.
use Rattle.std.proofs.Common.{◌≡◌, ℕ, ◌+◌, ◌-◌, ◌*◌, ◌^◌, ◌<◌, ◌≤◌, List, length, get_or, Result, Err, subst, arith, inl, inr}
use Rattle.std.specs.Prelude.{MatchResult}
use Rattle.std.specs.List.Sorted.{IsBinarySearchResult}
use Rattle.std.specs.Ordering.{nat_cmp}
use Rattle.std.proofs.lemmas.Bool.{cases_lt}
use Rattle.std.proofs.lemmas.Nat.{mul-lt}
use Rattle.std.proofs.lemmas.List.Sorted.{searched}
use Rattle.flow_merge.specs.RowRecords.{AreOrdered, IsLastBefore, IsWithin}

rises : (borders : List ℕ) → AreOrdered borders → (i j : ℕ) → i ≤ j → j < length borders → get_or borders i 0 ≤ get_or borders j 0
rises borders ordered i j upto inside =
    elim (cases_lt i j) [
      | inl less ↦ omega (arith, ordered.0 i j less inside)
      | inr over ↦
          let same : i ≡ j = omega (arith, upto, over) in
          subst (λ (n : ℕ). get_or borders i 0 ≤ get_or borders n 0) same (omega arith)
    ]

-- what a search among borders answers
abbrev pub Found : List ℕ → ℕ → Result ℕ ℕ → Type 0
Found borders time r =
    MatchResult r (λ i. (i < length borders) × (get_or borders i 0 ≡ time))
    (λ i. (i ≤ length borders) × ((k : ℕ) → k < i → get_or borders k 0 < time) × ((k : ℕ) → i ≤ k → k < length borders → time < get_or borders k 0))

pub found : (borders : List ℕ) (time : ℕ) (r : Result ℕ ℕ) → AreOrdered borders → IsBinarySearchResult (λ y. nat_cmp y time) borders r → Found borders time r
found borders time r ordered is = searched borders time r is (rises borders ordered)

pub found_behind : (borders : List ℕ) (time i : ℕ) → AreOrdered borders → IsBinarySearchResult (λ y. nat_cmp y time) borders (Err i) → Found borders time (Err i)
found_behind borders time i ordered is = found borders time (Err i) ordered is

-- a border at the time itself
pub at_border : (borders : List ℕ) (time i : ℕ) → AreOrdered borders → i < length borders → get_or borders i 0 ≡ time → IsLastBefore borders time i
at_border borders time i ordered inside is =
    record { inside = inside; before = omega (arith, is); after = λ k later k_inside. omega (arith, ordered.0 i k later k_inside, is) }

-- a border before it, and the next one after it
pub between_borders : (borders : List ℕ) (time i : ℕ) → 0 < i → i ≤ length borders → ((k : ℕ) → k < i → get_or borders k 0 < time)
    → ((k : ℕ) → i ≤ k → k < length borders → time < get_or borders k 0) → IsLastBefore borders time (i - 1)
between_borders borders time i some inside before after =
    record {
      inside = omega (arith, some, inside);
      before = omega (arith, before (i - 1) (omega (arith, some)));
      after = λ k later k_inside. after k (omega (arith, some, later)) k_inside;
    }

-- only the interval of the last border before its beginning can have a time
pub only_there : (borders : List ℕ) (first last index k : ℕ) → AreOrdered borders → IsLastBefore borders first index → IsWithin borders k first last → k ≡ index
only_there borders first last index k ordered is within =
    elim (cases_lt index k) [
      | inl later ↦ absurd (omega (arith, is.after k later (omega (arith, within.inside)), within.begins))
      | inr upto ↦
          elim (cases_lt k index) [
            | inl earlier ↦
                absurd (omega (arith, rises borders ordered (k + 1) index (omega (arith, earlier)) is.inside, within.ends, within.forward, is.before))
            | inr same ↦ omega (arith, upto, same)
          ]
    ]

last_before : (borders : List ℕ) (start end k : ℕ) → AreOrdered borders → IsWithin borders k start end → IsLastBefore borders start k
last_before borders start end k ordered within =
    record {
      inside = omega (arith, within.inside);
      before = within.begins;
      after = λ j later inside. omega (arith, rises borders ordered (k + 1) j (omega (arith, later)) inside, within.ends, within.forward);
    }

-- there is no other
pub same_interval : (borders : List ℕ) (k j start end : ℕ) → AreOrdered borders → IsWithin borders k start end → IsWithin borders j start end → k ≡ j
same_interval borders k j start end ordered within other =
    let same : j ≡ k = only_there borders start end k j ordered (last_before borders start end k ordered within) other in
    omega (arith, same)

-- the numbers of few intervals are small
pub few_in_time : (k n : ℕ) → k < 2 ^ 18 → n < 2 ^ 32 → k * n < 2 ^ 50
few_in_time k n few short = omega (arith, mul-lt k n (2 ^ 18) (2 ^ 32) few short)
