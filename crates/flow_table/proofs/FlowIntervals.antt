-- The intervals of a flow, by the first and how many there are.
use Rattle.std.proofs.Common.{◌≡◌, ℕ, ◌+◌, ◌-◌, ◌/◌, ◌%◌, ◌≤◌, ◌<◌, ◌&&◌, false, nat_lt, List, length, get_or, sym, ap, ◌∙◌, subst, arith}
use Rattle.std.specs.Prelude.{if◌then◌else◌}
use Rattle.std.specs.List.{range_with_len}
use Rattle.std.proofs.lemmas.Bool.{le-ltb, ltb-true}
use Rattle.std.proofs.lemmas.List.FromFn.{get_or-range_with_len, length-range_with_len}
use Rattle.flow_table.specs.declared.flow.Flow.{Flow}
use Rattle.flow_table.specs.declared.method.Method.{Method}
use Rattle.flow_table.specs.declared.method.Method.TheVariants.{Start, End, Mid, Uniform, Proportional}
use Rattle.flow_table.specs.Flows.{HasIntervals}
use Rattle.flow_table.specs.Intervals.{interval_of, spread, covered_by, covers, covers_by, uniform_share, share, share_by}
use Rattle.flow_table.specs.Plans.{IsPlan, PlanValue}
use Rattle.flow_table.specs.Reading.{is_spread, is_too_long}
use Rattle.flow_table.proofs.ShareSums.{even_there, in_order}

same_many : (a n first m : ℕ) → range_with_len a n ≡ range_with_len first m → n ≡ m
same_many a n first m same = omega (arith, ap length same, length-range_with_len a n, length-range_with_len first m)

-- a flow is too long by how many they are
pub too_many : (plan : PlanValue) (s e first n : ℕ) → 1 ≤ plan.max_spread → covers plan s e ≡ range_with_len first n → is_too_long plan s e ≡ nat_lt plan.max_spread n
too_many plan s e first n some are = by plan.method are
  where
    one : (k : ℕ) → range_with_len k 1 ≡ range_with_len first n → false ≡ nat_lt plan.max_spread n
    one k same = sym (le-ltb plan.max_spread n (omega (arith, same_many k 1 first n same)))

    all : covered_by plan.length s e ≡ range_with_len first n → nat_lt plan.max_spread (spread plan.length s e) ≡ nat_lt plan.max_spread n
    all same = ap (nat_lt plan.max_spread) (same_many (interval_of plan.length s) (spread plan.length s e) first n same)

    by : (method : Method) → covers_by method plan.length s e ≡ range_with_len first n → (is_spread method && nat_lt plan.max_spread (spread plan.length s e)) ≡ nat_lt plan.max_spread n
    by Start same = one (interval_of plan.length s) same
    by End same = one (interval_of plan.length e) same
    by Mid same = one (interval_of plan.length ((s + e) / 2)) same
    by Uniform same = all same
    by Proportional same = all same

-- ---- shared evenly

-- one of the intervals of a flow gets the same as each other, or 1 more
pub even_at : (plan : PlanValue) (flow : Flow) (v k : ℕ) → IsPlan plan → plan.method ≡ Uniform → flow.span.start ≤ flow.span.end → HasIntervals plan flow → (flow.first ≤ k) × (k < flow.first + flow.count)
    → v / flow.count + (if nat_lt (k - flow.first) (v % flow.count) then 1 else 0) ≡ share plan flow.span.start flow.span.end v k
even_at plan flow v k sound uniform order has within =
    let s = flow.span.start in
    let e = flow.span.end in
    let low = interval_of plan.length s in
    let n = spread plan.length s e in
    let are : covered_by plan.length s e ≡ range_with_len flow.first flow.count = subst (λ (m : Method). covers_by m plan.length s e ≡ range_with_len flow.first flow.count) uniform has.covers in
    let many : n ≡ flow.count = same_many low n flow.first flow.count are in
    let first : low ≡ flow.first = omega (arith, ap (λ (ks : List ℕ). get_or ks 0 0) are, get_or-range_with_len low n 0 0 (omega arith), get_or-range_with_len flow.first flow.count 0 0 (omega arith)) in
    let up : low ≤ interval_of plan.length e = in_order plan.length s e (ltb-true 0 plan.length sound.positive) order in
    let there : uniform_share plan.length s e v k ≡ v / n + (if nat_lt (k - low) (v % n) then 1 else 0) = even_there low (interval_of plan.length e) (v / n) (v % n) k (omega arith) (omega arith) in
    sym (ap (λ (m : Method). share_by m plan.length s e v k) uniform ∙ there
    ∙ ap (λ (a : ℕ). v / n + (if nat_lt (k - a) (v % n) then 1 else 0)) first
    ∙ ap (λ (m : ℕ). v / m + (if nat_lt (k - flow.first) (v % m) then 1 else 0)) many)
