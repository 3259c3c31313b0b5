-- Totals and tallies of lists of records, one after the other.
use Rattle.std.proofs.Common.{◌≡◌, ◌≢◌, ◌+◌, ◌^◌, ◌<◌, ◌≤◌, ℕ, zero, suc, Bool, true, false, cond, ◌&&◌, ◌==◌, nat_eq, List, [], ◌∷◌, ◌++◌, length, length-append, map, filter, sum_by, Contains, slice_index_or, Option, Some, None, refl, sym, ap, ◌∙◌, subst, inl, inr, arith}
use Rattle.std.specs.List.{list_any}
use Rattle.std.proofs.lemmas.Bool.Decides.{eqb_tells}
use Rattle.std.proofs.lemmas.List.Sums.{sum_by-append}
use Rattle.std.proofs.lemmas.List.Elements.{filter-append}
use Rattle.ipfix_wire.specs.declared.specifier.ElementId.{ElementId}
use Rattle.ipfix_elements.specs.declared.cell.Cell.{Cell}
use Rattle.ipfix_message.specs.declared.record.DataRecord.{DataRecord}
use Rattle.flow_table.specs.declared.class.Class.{Class}
use Rattle.flow_table.specs.declared.class.Class.TheVariants.{Options, Untimed, Backward, Unkeyed, TooLong, Used}
use Rattle.flow_table.specs.AddedUp.{HasTooLargeRow}
use Rattle.flow_table.specs.Intervals.{covers, share}
use Rattle.flow_table.specs.Plans.{PlanValue}
use Rattle.flow_table.specs.Reading.{class_of, is_class, counter_of, IsUsed}
use Rattle.flow_table.specs.Rows.{is_same_key}
use Rattle.flow_table.specs.Flows.{shares_of, flow_total, flow_part}
use Rattle.flow_table.specs.Partials.{totals_at, tally, tally_sum, one_of}
use Rattle.flow_table.specs.Tables.{count_of, tally_of, begin_of, finish_of, contributes, share_of, sum_at, flows_at, IsTooLarge, IsTooLargeAt}
use Rattle.flow_table.specs.Totals.{Total, total, added, joined, HasLarge, IsLarge, IsLargeAt}

-- ---- one list after the other

pub sum_at-append : (plan : PlanValue) (rs qs : List DataRecord) (k : ℕ) (key : List Cell) (c : ElementId) → sum_at plan (rs ++ qs) k key c ≡ sum_at plan rs k key c + sum_at plan qs k key c
unfolding sum_at
sum_at-append plan rs qs k key c =
    ap (λ (ps : List DataRecord). sum_by (share_of plan k c) ps) (filter-append (contributes plan k key) rs qs)
    ∙ sum_by-append (share_of plan k c) (filter (contributes plan k key) rs) (filter (contributes plan k key) qs)

pub count-append : (p : DataRecord → Bool) (rs qs : List DataRecord) → length (filter p (rs ++ qs)) ≡ length (filter p rs) + length (filter p qs)
count-append p rs qs = ap length (filter-append p rs qs) ∙ length-append (filter p rs) (filter p qs)

pub flows_at-append : (plan : PlanValue) (rs qs : List DataRecord) (k : ℕ) (key : List Cell) → flows_at plan (rs ++ qs) k key ≡ flows_at plan rs k key + flows_at plan qs k key
unfolding flows_at
flows_at-append plan rs qs k key = count-append (contributes plan k key) rs qs

pub count_of-append : (plan : PlanValue) (rs qs : List DataRecord) (class : Class) → count_of plan (rs ++ qs) class ≡ count_of plan rs class + count_of plan qs class
unfolding count_of
count_of-append plan rs qs class = count-append (λ r. is_class class (class_of plan r)) rs qs

pub same_tally : (a b c d e f a' b' c' d' e' f' : ℕ) → a ≡ a' → b ≡ b' → c ≡ c' → d ≡ d' → e ≡ e' → f ≡ f' → tally a b c d e f ≡ tally a' b' c' d' e' f'
same_tally a b c d e f a' b' c' d' e' f' p q r s t u = rw (p, q, r, s, t, u) refl

pub tally_of-append : (plan : PlanValue) (rs qs : List DataRecord) → tally_of plan (rs ++ qs) ≡ tally_sum (tally_of plan rs) (tally_of plan qs)
tally_of-append plan rs qs =
    same_tally _ _ _ _ _ _ _ _ _ _ _ _
    (count_of-append plan rs qs Options) (count_of-append plan rs qs Untimed) (count_of-append plan rs qs Backward)
    (count_of-append plan rs qs Unkeyed) (count_of-append plan rs qs TooLong) (count_of-append plan rs qs Used)

-- ---- no flows

none_left : (ps : List DataRecord) → length ps ≡ 0 → ps ≡ []
none_left [] h = refl
none_left (p ∷ ps) h = absurd (omega arith)

pub sum_at-none : (plan : PlanValue) (rs : List DataRecord) (k : ℕ) (key : List Cell) (c : ElementId) → flows_at plan rs k key ≡ 0 → sum_at plan rs k key c ≡ 0
unfolding sum_at flows_at
sum_at-none plan rs k key c h = ap (λ (ps : List DataRecord). sum_by (share_of plan k c) ps) (none_left (filter (contributes plan k key) rs) h)

-- ---- totals

pub added_map : {K : Type 0} (f g h : K → ℕ) → ((c : K) → f c ≡ g c + h c) → (cs : List K) → map f cs ≡ added (map g cs) (map h cs)
added_map f g h is [] = refl
added_map f g h is (c ∷ cs) = ap (λ (n : ℕ). n ∷ map f cs) (is c) ∙ ap (λ (ns : List ℕ). (g c + h c) ∷ ns) (added_map f g h is cs)

pub same_map : {K : Type 0} (f g : K → ℕ) → ((c : K) → f c ≡ g c) → (cs : List K) → map f cs ≡ map g cs
same_map f g is [] = refl
same_map f g is (c ∷ cs) = ap (λ (n : ℕ). n ∷ map f cs) (is c) ∙ ap (λ (ns : List ℕ). g c ∷ ns) (same_map f g is cs)

abbrev pub totals_of : List ℕ → ℕ → Option Total
totals_of sums n = cond (n == 0) None (Some (total sums n))

itself_not : (n : ℕ) → n ≢ 0 → (n == 0) ≡ false
itself_not n h = elim (eqb_tells n 0) [ inl y ↦ absurd (h y.1) | inr m ↦ m.0 ]

pub join_totals : (zs xs ys : List ℕ) (s m n : ℕ) → s ≡ m + n → zs ≡ added xs ys → (m ≡ 0 → zs ≡ ys) → (n ≡ 0 → zs ≡ xs) → totals_of zs s ≡ joined (totals_of xs m) (totals_of ys n)
join_totals zs xs ys s m n is both left right =
    elim (eqb_tells m 0) [
      | inl y ↦
          let same : s ≡ n = omega (arith, y.1) in
          elim (eqb_tells n 0) [
            | inl z ↦ rw (y.0, z.0, same, z.0) refl
            | inr o ↦ rw (y.0, o.0, same, o.0, left y.1) refl
          ]
      | inr o ↦
          let some : (s == 0) ≡ false = itself_not s (λ e. o.1 (omega arith)) in
          elim (eqb_tells n 0) [
            | inl z ↦
                let same : s ≡ m = omega (arith, z.1) in
                rw (o.0, z.0, some, right z.1) (ap (λ (j : ℕ). Some (total xs j)) same)
            | inr p ↦ rw (o.0, p.0, some, both) (ap (λ (j : ℕ). Some (total (added xs ys) j)) is)
          ]
    ]

pub totals_at-append : (plan : PlanValue) (rs qs : List DataRecord) (k : ℕ) (key : List Cell) → totals_at plan (rs ++ qs) k key ≡ joined (totals_at plan rs k key) (totals_at plan qs k key)
unfolding totals_at
totals_at-append plan rs qs k key =
    join_totals (map (sum_at plan (rs ++ qs) k key) plan.counters) (map (sum_at plan rs k key) plan.counters) (map (sum_at plan qs k key) plan.counters)
    (flows_at plan (rs ++ qs) k key) (flows_at plan rs k key) (flows_at plan qs k key)
    (flows_at-append plan rs qs k key)
    (added_map (sum_at plan (rs ++ qs) k key) (sum_at plan rs k key) (sum_at plan qs k key) (sum_at-append plan rs qs k key) plan.counters)
    (λ m. same_map (sum_at plan (rs ++ qs) k key) (sum_at plan qs k key) (λ c. omega (arith, sum_at-append plan rs qs k key c, sum_at-none plan rs k key c m)) plan.counters)
    (λ n. same_map (sum_at plan (rs ++ qs) k key) (sum_at plan rs k key) (λ c. omega (arith, sum_at-append plan rs qs k key c, sum_at-none plan qs k key c n)) plan.counters)

-- ---- too large

large_in : (f : ElementId → ℕ) (cs : List ElementId) → HasLarge (map f cs) → (c : ElementId) × Contains cs c × (2 ^ 64 ≤ f c)
large_in f [] l = absurd l
large_in f (c ∷ cs) (inl l) = (c, (0, omega arith, refl), l)
large_in f (c ∷ cs) (inr l) =
    let more = large_in f cs l in
    let at : more.1.0 < length cs = more.1.1 in
    (more.0, (suc more.1.0, omega arith, more.1.2), more.2)

large_at : (f : ElementId → ℕ) (cs : List ElementId) (c : ElementId) (i : ℕ) → i < length cs → slice_index_or cs i c ≡ c → 2 ^ 64 ≤ f c → HasLarge (map f cs)
large_at f [] c i lt is big = absurd (omega arith)
large_at f (d ∷ cs) c zero lt is big = inl (subst (λ (e : ElementId). 2 ^ 64 ≤ f e) (sym is) big)
large_at f (d ∷ cs) c (suc i) lt is big = inr (large_at f cs c i (omega arith) is big)

abbrev WithTotals : PlanValue → List DataRecord → ℕ → List Cell → Bool → Type 0
WithTotals plan rs k key b = IsLargeAt (cond b None (Some (total (map (sum_at plan rs k key) plan.counters) (flows_at plan rs k key))))

from_large : (plan : PlanValue) (rs : List DataRecord) (k : ℕ) (key : List Cell) → IsLarge (total (map (sum_at plan rs k key) plan.counters) (flows_at plan rs k key)) → IsTooLargeAt plan rs k key
from_large plan rs k key (inl l) = inl (large_in (sum_at plan rs k key) plan.counters l)
from_large plan rs k key (inr l) = inr l

pub large_place : (plan : PlanValue) (rs : List DataRecord) (k : ℕ) (key : List Cell) → IsLargeAt (totals_at plan rs k key) → IsTooLargeAt plan rs k key
unfolding totals_at
large_place plan rs k key big =
    elim (eqb_tells (flows_at plan rs k key) 0) [
      | inl y ↦ absurd (subst (WithTotals plan rs k key) y.0 big)
      | inr n ↦ from_large plan rs k key (subst (WithTotals plan rs k key) n.0 big)
    ]

row_of_place : (plan : PlanValue) (rs : List DataRecord) (k : ℕ) (key : List Cell) → IsTooLargeAt plan rs k key → HasTooLargeRow plan rs
row_of_place plan rs k key (inl large) = inl (k, key, large.0, large.1, large.2)
row_of_place plan rs k key (inr large) = inr (k, key, large)

pub too_large_row_at : (plan : PlanValue) (rs : List DataRecord) (k : ℕ) (key : List Cell) → IsLargeAt (totals_at plan rs k key) → HasTooLargeRow plan rs
too_large_row_at plan rs k key big = row_of_place plan rs k key (large_place plan rs k key big)

pub too_large_of_row : (plan : PlanValue) (rs : List DataRecord) → HasTooLargeRow plan rs → IsTooLarge plan rs
too_large_of_row plan rs (inl large) = inl large
too_large_of_row plan rs (inr large) = inr (inl large)

pub too_large_at : (plan : PlanValue) (rs : List DataRecord) (k : ℕ) (key : List Cell) → IsLargeAt (totals_at plan rs k key) → IsTooLarge plan rs
too_large_at plan rs k key big = too_large_of_row plan rs (too_large_row_at plan rs k key big)

large_total : (plan : PlanValue) (rs : List DataRecord) (k : ℕ) (key : List Cell) → flows_at plan rs k key ≢ 0 → IsLarge (total (map (sum_at plan rs k key) plan.counters) (flows_at plan rs k key)) → IsLargeAt (totals_at plan rs k key)
unfolding totals_at
large_total plan rs k key some big = subst (WithTotals plan rs k key) (sym (itself_not (flows_at plan rs k key) some)) big

-- a row that is too large has such totals
pub large_row : (plan : PlanValue) (rs : List DataRecord) → HasTooLargeRow plan rs → (k : ℕ) × (key : List Cell) × IsLargeAt (totals_at plan rs k key)
large_row plan rs (inl large) =
    let k = large.0 in
    let key = large.1 in
    let c = large.2 in
    let big : 2 ^ 64 ≤ sum_at plan rs k key c = large.4 in
    let some : flows_at plan rs k key ≢ 0 = λ e. let none = sum_at-none plan rs k key c e in omega arith in
    (k, key, large_total plan rs k key some (inl (large_at (sum_at plan rs k key) plan.counters c large.3.0 large.3.1 large.3.2 big)))
large_row plan rs (inr large) =
    let big : 2 ^ 64 ≤ flows_at plan rs large.0 large.1 = large.2 in
    (large.0, large.1, large_total plan rs large.0 large.1 (λ e. omega arith) (inr big))

-- a list is small where the totals of all rows and the tally are
pub small_from : (plan : PlanValue) (rs : List DataRecord) → ((k : ℕ) (key : List Cell) → IsLargeAt (totals_at plan rs k key) → ⊥) → ((class : Class) → count_of plan rs class < 2 ^ 64) → IsTooLarge plan rs → ⊥
small_from plan rs rows counts (inl large) = let at = large_row plan rs (inl large) in rows at.0 at.1 at.2
small_from plan rs rows counts (inr (inl large)) = let at = large_row plan rs (inr large) in rows at.0 at.1 at.2
small_from plan rs rows counts (inr (inr large)) =
    let big : 2 ^ 64 ≤ count_of plan rs large.0 = large.1 in
    let small = counts large.0 in
    omega arith

-- ---- one record

one_count : (plan : PlanValue) (r : DataRecord) (class : Class) → count_of plan (r ∷ []) class ≡ length (cond (is_class class (class_of plan r)) (r ∷ []) [])
unfolding count_of
one_count plan r class = refl

one_tally : (r : DataRecord) (d : Class)
    → tally (length (cond (is_class Options d) (r ∷ []) [])) (length (cond (is_class Untimed d) (r ∷ []) [])) (length (cond (is_class Backward d) (r ∷ []) []))
    (length (cond (is_class Unkeyed d) (r ∷ []) [])) (length (cond (is_class TooLong d) (r ∷ []) [])) (length (cond (is_class Used d) (r ∷ []) [])) ≡ one_of d
one_tally r Options = refl
one_tally r Untimed = refl
one_tally r Backward = refl
one_tally r Unkeyed = refl
one_tally r TooLong = refl
one_tally r Used = refl

pub tally_of-one : (plan : PlanValue) (r : DataRecord) → tally_of plan (r ∷ []) ≡ one_of (class_of plan r)
tally_of-one plan r =
    same_tally _ _ _ _ _ _ _ _ _ _ _ _ (one_count plan r Options) (one_count plan r Untimed) (one_count plan r Backward) (one_count plan r Unkeyed) (one_count plan r TooLong) (one_count plan r Used)
    ∙ one_tally r (class_of plan r)

-- the totals of one record that contributes, or doesn't
abbrev one_totals : PlanValue → DataRecord → ℕ → List Cell → Bool → Option Total
one_totals plan r k key b =
    cond (length (cond b (r ∷ []) []) == 0) None (Some (total (map (λ c. sum_by (share_of plan k c) (cond b (r ∷ []) [])) plan.counters) (length (cond b (r ∷ []) []))))

one_is : (plan : PlanValue) (r : DataRecord) (k : ℕ) (key : List Cell) → totals_at plan (r ∷ []) k key ≡ one_totals plan r k key (contributes plan k key r)
unfolding totals_at sum_at flows_at
one_is plan r k key = refl

not_used : (d : Class) → d ≢ Used → is_class Used d ≡ false
not_used Options h = refl
not_used Untimed h = refl
not_used Backward h = refl
not_used Unkeyed h = refl
not_used TooLong h = refl
not_used Used h = absurd (h refl)

left_out : (plan : PlanValue) (r : DataRecord) (k : ℕ) (key : List Cell) → class_of plan r ≢ Used → contributes plan k key r ≡ false
unfolding contributes
left_out plan r k key h = rw (not_used (class_of plan r) h) refl

pub totals_at-left : (plan : PlanValue) (r : DataRecord) (k : ℕ) (key : List Cell) → class_of plan r ≢ Used → totals_at plan (r ∷ []) k key ≡ None
totals_at-left plan r k key h = one_is plan r k key ∙ ap (one_totals plan r k key) (left_out plan r k key h)

shared : (plan : PlanValue) (r : DataRecord) (s e : ℕ) (key : List Cell) (k : ℕ) → IsUsed plan r s e key → (cs : List ElementId)
    → map (λ c. sum_by (share_of plan k c) (r ∷ [])) cs ≡ shares_of plan s e (map (λ c. counter_of c r) cs) k
unfolding share_of
shared plan r s e key k used [] = refl
shared plan r s e key k used (c ∷ cs) =
    ap (λ (n : ℕ). n ∷ map (λ d. sum_by (share_of plan k d) (r ∷ [])) cs) (first c)
    ∙ ap (λ (ns : List ℕ). share plan s e (counter_of c r) k ∷ ns) (shared plan r s e key k used cs)
  where
    first : (c : ElementId) → 0 + share plan (begin_of plan r) (finish_of plan r) (counter_of c r) k ≡ share plan s e (counter_of c r) k
    first c = rw (used.start, used.end) (omega arith)

gives : (plan : PlanValue) (r : DataRecord) (s e : ℕ) (key : List Cell) (k : ℕ) (q : List Cell) → IsUsed plan r s e key → contributes plan k q r ≡ (list_any (nat_eq k) (covers plan s e) && is_same_key q key)
unfolding contributes
gives plan r s e key k q used = rw (used.used, used.start, used.end, used.cells) refl

pub totals_at-used : (plan : PlanValue) (r : DataRecord) (s e : ℕ) (key : List Cell) (k : ℕ) (q : List Cell) → IsUsed plan r s e key
    → totals_at plan (r ∷ []) k q ≡ flow_part plan s e key (map (λ c. counter_of c r) plan.counters) k q
unfolding flow_part flow_total
totals_at-used plan r s e key k q used =
    one_is plan r k q ∙ ap (one_totals plan r k q) (gives plan r s e key k q used)
    ∙ by (list_any (nat_eq k) (covers plan s e)) (is_same_key q key)
  where
    by : (a b : Bool) → one_totals plan r k q (a && b) ≡ cond a (cond b (Some (total (shares_of plan s e (map (λ c. counter_of c r) plan.counters) k) 1)) None) None
    by true true = ap (λ (ns : List ℕ). Some (total ns 1)) (shared plan r s e key k used plan.counters)
    by true false = refl
    by false true = refl
    by false false = refl
