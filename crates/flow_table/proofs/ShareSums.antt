-- The shares of a flow's intervals add up to the counter.
use Rattle.std.proofs.Common.{◌≡◌, ℕ, ◌+◌, ◌-◌, ◌*◌, ◌/◌, ◌%◌, ◌<◌, ◌≤◌, zero, suc, List, [], ◌∷◌, min, refl, ap, ◌∙◌, arith}
use Rattle.std.specs.Prelude.{◌≢◌, sum_by, ◌&&◌, nat_lt, nat_le, if◌then◌else◌}
use Rattle.std.specs.List.{range_with_len}
use Rattle.std.proofs.lemmas.List.Sums.{sum_by-cons}
use Rattle.std.proofs.Math.Nat.{div-add-mod, mod-lt, mul-div_cancel, zero-div}
use Rattle.std.proofs.lemmas.Bool.Decides.{eqb_tells, leb_tells}
use Rattle.flow_table.specs.declared.method.Method.{Method}
use Rattle.flow_table.specs.declared.method.Method.TheVariants.{Start, End, Mid, Uniform, Proportional}
use Rattle.flow_table.specs.Plans.{PlanValue}
use Rattle.flow_table.specs.Intervals.{interval_of, spread, covered_by, covers, covers_by, whole_share, uniform_share, due_before, proportional_share, share_by, share}
use Rattle.flow_table.proofs.Dues.{quotient_grows, due_grows, nothing_before, all_before}

first_apart : (f : ℕ → ℕ) (a n : ℕ) → sum_by f (range_with_len a (suc n)) ≡ f a + sum_by f (range_with_len (a + 1) n)
first_apart f a n = sum_by-cons f a (range_with_len (a + 1) n)

-- ---- all to one interval

whole_there : (one v : ℕ) → whole_share one v one ≡ v
whole_there one v = grind (arith, eqb_tells one one)

none_elsewhere : (one v k : ℕ) → k ≢ one → whole_share one v k ≡ 0
none_elsewhere one v k other = grind (arith, eqb_tells k one)

none_behind : (one v a n : ℕ) → one < a → sum_by (whole_share one v) (range_with_len a n) ≡ 0
none_behind one v a zero behind = refl
none_behind one v a (suc n) behind =
    omega (arith, first_apart (whole_share one v) a n, none_elsewhere one v a (omega arith), none_behind one v (a + 1) n (omega arith))

one_from : (one v i n : ℕ) (a : ℕ) → a + i ≡ one → i < n → sum_by (whole_share one v) (range_with_len a n) ≡ v
one_from one v i zero a there within = omega arith
one_from one v zero (suc n) a there within =
    let here : whole_share one v a ≡ v = ap (whole_share one v) (omega arith) ∙ whole_there one v in
    omega (arith, first_apart (whole_share one v) a n, here, none_behind one v (a + 1) n (omega arith))
one_from one v (suc i) (suc n) a there within =
    omega (arith, first_apart (whole_share one v) a n, none_elsewhere one v a (omega arith), one_from one v i n (a + 1) (omega arith) (omega arith))

one_among : (one v a n : ℕ) → a ≤ one → one < a + n → sum_by (whole_share one v) (range_with_len a n) ≡ v
one_among one v a n from below = one_from one v (one - a) n a (omega arith) (omega arith)

-- ---- what is due, piece by piece

telescope : (f : ℕ → ℕ) → ((k : ℕ) → f k ≤ f (k + 1)) → (a n b : ℕ) → a + n ≡ b → f a + sum_by (λ k. f (k + 1) - f k) (range_with_len a n) ≡ f b
telescope f grows a zero b ends = let last : f a ≡ f b = ap f (omega arith) in omega (arith, last)
telescope f grows a (suc n) b ends =
    omega (arith, first_apart (λ k. f (k + 1) - f k) a n, grows a, telescope f grows (a + 1) n b (omega arith))

-- ---- the same to each, and 1 more to the earliest

-- what interval k gets where those from low to high get q each, and the first r of them 1 more
abbrev pub even_share : ℕ → ℕ → ℕ → ℕ → ℕ → ℕ
even_share low high q r k = if nat_le low k && nat_le k high then q + (if nat_lt (k - low) r then 1 else 0) else 0

pub even_there : (low high q r k : ℕ) → low ≤ k → k ≤ high → even_share low high q r k ≡ q + (if nat_lt (k - low) r then 1 else 0)
even_there low high q r k from to = grind (arith, leb_tells low k, leb_tells k high)

even_one : (low high q r k : ℕ) → low ≤ k → k ≤ high → even_share low high q r k + min (k - low) r ≡ q + min (k + 1 - low) r
even_one low high q r k from to = grind (arith, leb_tells low k, leb_tells k high, leb_tells (suc (k - low)) r)

even_from : (low high q r a n : ℕ) → low ≤ a → a + n ≡ high + 1
    → sum_by (even_share low high q r) (range_with_len a n) + min (a - low) r ≡ n * q + min (high + 1 - low) r
even_from low high q r a zero from ends = omega arith
even_from low high q r a (suc n) from ends =
    omega (arith, first_apart (even_share low high q r) a n, even_one low high q r a from (omega arith), even_from low high q r (a + 1) n (omega arith) (omega arith))

-- ---- by every method

pub in_order : (length s e : ℕ) → 0 < length → s ≤ e → interval_of length s ≤ interval_of length e
in_order length s e positive order = quotient_grows s e length positive order

one_covered : (length s e t v : ℕ) → 0 < length → s ≤ t → t ≤ e → sum_by (whole_share (interval_of length t) v) (covered_by length s e) ≡ v
one_covered length s e t v positive from to =
    one_among (interval_of length t) v (interval_of length s) (spread length s e) (in_order length s t positive from)
    (omega (arith, in_order length s t positive from, in_order length t e positive to))

uniform_covered : (length s e v : ℕ) → 0 < length → s ≤ e → sum_by (uniform_share length s e v) (covered_by length s e) ≡ v
uniform_covered length s e v positive order =
    let n = spread length s e in
    let low = interval_of length s in
    let least : v % n < n = mod-lt v (omega arith) in
    let up : low ≤ interval_of length e = in_order length s e positive order in
    let whole : n * (v / n) + v % n ≡ v = div-add-mod v n in
    let sum : sum_by (uniform_share length s e v) (range_with_len low n) + min (low - low) (v % n) ≡ n * (v / n) + min (interval_of length e + 1 - low) (v % n) =
    even_from low (interval_of length e) (v / n) (v % n) low n (omega arith) (omega arith) in
    omega (arith, sum, whole, least, up)

nothing_of : (v d : ℕ) → v * 0 / d ≡ 0
nothing_of v d = ap (λ (m : ℕ). m / d) (omega arith) ∙ zero-div d

all_of : (v d : ℕ) → v * (d + 1) / (d + 1) ≡ v
all_of v d = mul-div_cancel v (omega arith)

proportional_covered : (length s e v : ℕ) → 0 < length → s ≤ e → sum_by (proportional_share length s e v) (covered_by length s e) ≡ v
proportional_covered length s e v positive order =
    let d = e - s + 1 in
    let low = interval_of length s in
    let before : due_before length s e v low ≡ 0 = ap (λ (m : ℕ). v * m / d) (nothing_before length s e) ∙ nothing_of v d in
    let behind : due_before length s e v (interval_of length e + 1) ≡ v = ap (λ (m : ℕ). v * m / d) (all_before length s e positive order) ∙ all_of v (e - s) in
    let sum : due_before length s e v low + sum_by (proportional_share length s e v) (covered_by length s e) ≡ due_before length s e v (interval_of length e + 1) =
    telescope (due_before length s e v) (due_grows length s e v) low (spread length s e) (interval_of length e + 1) (omega (arith, in_order length s e positive order)) in
    omega (arith, before, behind, sum)

pub shares_add_up : (p : PlanValue) (s e v : ℕ) → 0 < p.length → s ≤ e → sum_by (share p s e v) (covered_by p.length s e) ≡ v
shares_add_up p s e v positive order = by_method p.length p.method s e v positive order where
  by_method : (length : ℕ) (method : Method) (s e v : ℕ) → 0 < length → s ≤ e → sum_by (share_by method length s e v) (covered_by length s e) ≡ v
  by_method length Start s e v positive order = one_covered length s e s v positive (omega arith) order
  by_method length End s e v positive order = one_covered length s e e v positive order (omega arith)
  by_method length Mid s e v positive order = one_covered length s e ((s + e) / 2) v positive (omega arith) (omega arith)
  by_method length Uniform s e v positive order = uniform_covered length s e v positive order
  by_method length Proportional s e v positive order = proportional_covered length s e v positive order

-- ---- one interval alone

first_same : (j k : ℕ) → j ∷ [] ≡ k ∷ [] → k ≡ j
first_same j k same = cc same

whole_in_it : (one v k : ℕ) → one ∷ [] ≡ k ∷ [] → whole_share one v k ≡ v
whole_in_it one v k alone = ap (whole_share one v) (first_same one k alone) ∙ whole_there one v

sum_in_it : (f : ℕ → ℕ) (ks : List ℕ) (v k : ℕ) → sum_by f ks ≡ v → ks ≡ k ∷ [] → f k ≡ v
sum_in_it f ks v k sum alone =
    let one : sum_by f ks ≡ f k + 0 = ap (sum_by f) alone ∙ sum_by-cons f k [] in omega (arith, sum, one)

-- an interval that alone is covered gets the whole counter
pub whole_alone : (p : PlanValue) (s e v k : ℕ) → 0 < p.length → s ≤ e → covers p s e ≡ k ∷ [] → share p s e v k ≡ v
whole_alone p s e v k positive order alone = by_method p.length p.method s e v k positive order alone where
  by_method : (length : ℕ) (method : Method) (s e v k : ℕ) → 0 < length → s ≤ e → covers_by method length s e ≡ k ∷ [] → share_by method length s e v k ≡ v
  by_method length Start s e v k positive order alone = whole_in_it (interval_of length s) v k alone
  by_method length End s e v k positive order alone = whole_in_it (interval_of length e) v k alone
  by_method length Mid s e v k positive order alone = whole_in_it (interval_of length ((s + e) / 2)) v k alone
  by_method length Uniform s e v k positive order alone = sum_in_it (uniform_share length s e v) (covered_by length s e) v k (uniform_covered length s e v positive order) alone
  by_method length Proportional s e v k positive order alone = sum_in_it (proportional_share length s e v) (covered_by length s e) v k (proportional_covered length s e v positive order) alone

pub alone_gets_all : (p : PlanValue) (s e first n : ℕ) → 0 < p.length → s ≤ e → covers p s e ≡ range_with_len first n → n ≡ 1 → (v : ℕ) → share p s e v first ≡ v
alone_gets_all p s e first n positive order are one v = whole_alone p s e v first positive order (are ∙ ap (range_with_len first) one)
