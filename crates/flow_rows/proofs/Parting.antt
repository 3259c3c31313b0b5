-- The usual rows of a run, and the great ones.
use Rattle.std.proofs.Common.{◌≡◌, ℕ, ◌+◌, ◌<◌, Bool, true, false, cond, not, List, [], ◌∷◌, get_or, refl, sym, ap, subst, arith}
use Rattle.std.specs.List.{filter}
use Rattle.std.specs.declared.cmp.Ordering.TheVariants.{Less}
use Rattle.std.proofs.lemmas.List.Elements.{All-filter}
use Rattle.std.proofs.lemmas.List.Filters.{sum_by-filter_both}
use Rattle.flow_rows.specs.Rows.{Row, Above, Ascends, Counted, IsRun, part, total_at, words_cmp}

above_chosen : (b : Bool) (k : List ℕ) (x : Row) (ys : List Row) → words_cmp k x.key ≡ Less → Above k ys → Above k (cond b (x ∷ ys) ys)
above_chosen true k x ys l a = (l, a)
above_chosen false k x ys l a = a

above-filter : (p : Row → Bool) (k : List ℕ) (xs : List Row) → Above k xs → Above k (filter p xs)
above-filter p k [] a = tt
above-filter p k (x ∷ xs) a = above_chosen (p x) k x (filter p xs) a.0 (above-filter p k xs a.1)

ascends_chosen : (b : Bool) (x : Row) (ys : List Row) → Above x.key ys → Ascends ys → Ascends (cond b (x ∷ ys) ys)
ascends_chosen true x ys a s = (a, s)
ascends_chosen false x ys a s = s

ascends-filter : (p : Row → Bool) (xs : List Row) → Ascends xs → Ascends (filter p xs)
ascends-filter p [] a = tt
ascends-filter p (x ∷ xs) a = ascends_chosen (p x) x (filter p xs) (above-filter p x.key xs a.0) (ascends-filter p xs a.1)

pub filtered_run : (p : Row → Bool) (xs ys : List Row) → ys ≡ filter p xs → IsRun xs → IsRun ys
unfolding IsRun
filtered_run p xs ys e h =
    subst (λ (zs : List Row). Ascends zs × Counted zs) (sym e) (ascends-filter p xs h.0, All-filter p (λ (x : Row). 0 < get_or x.numbers 0 0) xs h.1)

-- what both have of a key
pub parted_total : (p : Row → Bool) (xs us gs : List Row) (q : List ℕ) (i : ℕ) → us ≡ filter (λ x. not (p x)) xs → gs ≡ filter p xs → total_at us q i + total_at gs q i ≡ total_at xs q i
parted_total p xs us gs q i e f =
    omega (arith, ap (λ (ys : List Row). total_at ys q i) e, ap (λ (ys : List Row). total_at ys q i) f, sum_by-filter_both p (λ x. not (p x)) (λ _. refl) (part q i) xs)
