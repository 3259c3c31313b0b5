-- What runs and a buffer hold of a key.
use Rattle.std.proofs.Common.{◌≡◌, ℕ, suc, ◌+◌, ◌-◌, ◌<◌, ◌≤◌, ◌^◌, ◌++◌, ◌⊎◌, List, [], ◌∷◌, length, get_or, take, inl, inr, refl, sym, ap, ◌∙◌, subst, arith}
use Rattle.std.specs.Ordering.{is_eq}
use Rattle.std.specs.declared.cmp.Ordering.{Ordering}
use Rattle.std.specs.declared.cmp.Ordering.TheVariants.{Less, Equal, Greater}
use Rattle.flow_rows.proofs.Additive.{keys_same}
use Rattle.flow_rows.proofs.Found.{above_total, either, part_other}
use Rattle.flow_rows.proofs.Within.{part_own}
use Rattle.std.specs.Global.{Vec}
use Rattle.std.proofs.lemmas.List.{get_or_append_left, get_or_default, get_or_push, length-append}
use Rattle.std.proofs.lemmas.List.Elements.{All-get_or}
use Rattle.std.proofs.lemmas.List.Sums.{sum_by-append, sum_by-cons, sum_by_more_le}
use Rattle.flow_rows.specs.Rows.{Row, Ascends, IsRun, Small, part, total_at, words_cmp}
use Rattle.flow_rows.specs.Stacks.{AreRuns, all_rows, held_total, rows_of, stack_total}

pub run_at : (runs : List (Vec Row)) (n : ℕ) (r : Vec Row) (s : List Row) → n < length runs → r ≡ get_or runs n r → s ≡ r.items → AreRuns runs → IsRun s
run_at runs n r s l e o a = subst IsRun (sym o) (subst (λ (v : Vec Row). IsRun v.items) (sym e) (All-get_or (λ (v : Vec Row). IsRun v.items) runs n r l a))

pub small_at : (runs : List (Vec Row)) (n : ℕ) (r : Vec Row) (s : List Row) (q : List ℕ) (i sum : ℕ) → n < length runs → r ≡ get_or runs n r → s ≡ r.items → sum ≡ stack_total (take n runs) q i → stack_total runs q i < 2 ^ 64 → sum + total_at s q i < 2 ^ 64
small_at runs n r s q i sum l e o h small =
    omega (arith, sum_by_more_le (λ (v : Vec Row). total_at v.items q i) runs n r l, ap (λ (v : Vec Row). total_at v.items q i) e, ap (λ (t : List Row). total_at t q i) o)

total_rows : (runs : List (Vec Row)) (q : List ℕ) (i : ℕ) → total_at (rows_of runs) q i ≡ stack_total runs q i
total_rows [] q i = refl
total_rows (r ∷ rs) q i =
    omega (arith, sum_by-append (part q i) r.items (rows_of rs), sum_by-cons (λ (v : Vec Row). total_at v.items q i) r rs, total_rows rs q i)

pub total_all : (buffer : List Row) (runs : List (Vec Row)) (q : List ℕ) (i : ℕ) → total_at (all_rows buffer runs) q i ≡ held_total buffer runs q i
total_all buffer runs q i = omega (arith, sum_by-append (part q i) buffer (rows_of runs), total_rows runs q i)

split : (q : List ℕ) (i : ℕ) (x : Row) (r : Ordering) → words_cmp x.key q ≡ r → (part q i x ≡ 0) ⊎ (x.key ≡ q)
split q i x Less e = inl (part_other q i x (ap is_eq e))
split q i x Equal e = inr (keys_same x.key q e)
split q i x Greater e = inl (part_other q i x (ap is_eq e))

-- a row counts for its own key alone
pub bound_exact : (total : List ℕ → ℕ → ℕ) (x : Row) (bound most new : ℕ) → bound ≤ new → most ≤ new → ((q : List ℕ) (i : ℕ) → total q i ≤ bound) → ((i : ℕ) → total x.key i + get_or x.numbers i 0 ≤ most) → (q : List ℕ) (i : ℕ) → total q i + part q i x ≤ new
bound_exact total x bound most new l m w h q i =
    elim (split q i x (words_cmp x.key q) refl) [
      | inl e ↦ omega (arith, w q i, e)
      | inr e ↦ subst (λ (k : List ℕ). total k i + part k i x ≤ new) e (omega (arith, part_own x i, h i))
    ]

-- the greatest of an ascending list's rows with what another total has of their keys
pub both_within : (xs : List Row) (total : List ℕ → ℕ → ℕ) (most : ℕ) → Ascends xs → ((k : ℕ) (d : Row) → k < length xs → (j : ℕ) → total (get_or xs k d).key j + get_or (get_or xs k d).numbers j 0 ≤ most) → ((q : List ℕ) (i : ℕ) → total q i ≤ most) → (q : List ℕ) (i : ℕ) → total_at xs q i + total q i ≤ most
both_within [] total most a h w q i = omega (arith, w q i)
both_within (x ∷ xs) total most a h w q i =
    elim (split q i x (words_cmp x.key q) refl) [
      | inl e ↦ omega (arith, sum_by-cons (part q i) x xs, e, both_within xs total most a.1 (λ k d l j. h (suc k) d (omega arith) j) w q i)
      | inr e ↦ subst (λ (k : List ℕ). total_at (x ∷ xs) k i + total k i ≤ most) e (omega (arith, sum_by-cons (part x.key i) x xs, part_own x i, above_total x.key i xs a.0, h 0 x (omega arith) i))
    ]

pub below_next : (xs : List Row) (total : List ℕ → ℕ → ℕ) (n : ℕ) (x : Row) (old new : ℕ) → n < length xs → x ≡ get_or xs n x → old ≤ new → ((k : ℕ) (d : Row) → k < n → (j : ℕ) → total (get_or xs k d).key j + get_or (get_or xs k d).numbers j 0 ≤ old) → ((j : ℕ) → total x.key j + get_or x.numbers j 0 ≤ new) → (k : ℕ) (d : Row) → k < n + 1 → (j : ℕ) → total (get_or xs k d).key j + get_or (get_or xs k d).numbers j 0 ≤ new
below_next xs total n x old new l e m b h k d p j =
    elim (either k n) [
      | inl f ↦ omega (arith, b k d f j)
      | inr f ↦
          let same : n ≡ k = omega arith in
          subst (λ (at : ℕ). total (get_or xs at d).key j + get_or (get_or xs at d).numbers j 0 ≤ new) same
          (subst (λ (y : Row). total y.key j + get_or y.numbers j 0 ≤ new) (e ∙ get_or_default xs n x d l) (h j))
    ]

-- what a table's value has of a key
pub seen : (buffer : List Row) (runs : List (Vec Row)) (value : List Row) (q : List ℕ) (i : ℕ) → all_rows buffer runs ≡ value → held_total buffer runs q i ≡ total_at value q i
seen buffer runs value q i e = sym (total_all buffer runs q i) ∙ ap (λ (xs : List Row). total_at xs q i) e

pub popped_total : (old new : List (Vec Row)) (r : Vec Row) (q : List ℕ) (i : ℕ) → old ≡ new ++ r ∷ [] → stack_total new q i + total_at r.items q i ≡ stack_total old q i
popped_total old new r q i e =
    let f : Vec Row → ℕ = λ (v : Vec Row). total_at v.items q i in
    omega (arith, ap (λ (rs : List (Vec Row)). stack_total rs q i) e, sum_by-append f new (r ∷ []), sum_by-cons f r [])

pub popped_front : (old new : List (Vec Row)) (r : Vec Row) → old ≡ new ++ r ∷ [] → AreRuns old → AreRuns new
popped_front old new r e a =
    let b : AreRuns (new ++ r ∷ []) = subst AreRuns e a in
    λ k d l. subst (λ (v : Vec Row). IsRun v.items) (get_or_append_left new (r ∷ []) d k l) (b k d (omega (arith, length-append new (r ∷ []))))

pub popped_last : (old new : List (Vec Row)) (r : Vec Row) → old ≡ new ++ r ∷ [] → AreRuns old → IsRun r.items
popped_last old new r e a =
    let b : AreRuns (new ++ r ∷ []) = subst AreRuns e a in
    subst (λ (v : Vec Row). IsRun v.items) (get_or_push new r r (length new) refl) (b (length new) r (omega (arith, length-append new (r ∷ []))))

-- a row that is small with what is there of its key
pub stays_below : (total : List ℕ → ℕ → ℕ) (x : Row) → Small total → ((i : ℕ) → total x.key i + get_or x.numbers i 0 < 2 ^ 64) → Small (λ q i. total q i + part q i x)
stays_below total x s h q i =
    omega (arith, bound_exact total x (2 ^ 64 - 1) (2 ^ 64 - 1) (2 ^ 64 - 1) (omega arith) (omega arith) (λ p k. omega (arith, s p k)) (λ k. omega (arith, h k)) q i)

pub part_within : (x : Row) (most : ℕ) → ((i : ℕ) → get_or x.numbers i 0 ≤ most) → (q : List ℕ) (i : ℕ) → part q i x ≤ most
part_within x most h q i =
    omega (arith, bound_exact (λ (p : List ℕ) (k : ℕ). 0) x 0 most most (omega arith) (omega arith) (λ p k. omega arith) (λ k. omega (arith, h k)) q i)

pub one_total : (old new : List Row) (x : Row) (q : List ℕ) (i : ℕ) → old ≡ [] → new ≡ old ++ x ∷ [] → total_at new q i ≡ part q i x
one_total old new x q i e f =
    let s : new ≡ x ∷ [] = f ∙ ap (λ (xs : List Row). xs ++ x ∷ []) e in
    omega (arith, ap (λ (xs : List Row). total_at xs q i) s, sum_by-cons (part q i) x [])
