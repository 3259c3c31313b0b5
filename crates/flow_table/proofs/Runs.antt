-- Totals at intervals in a row.
use Rattle.std.proofs.Common.{◌≡◌, ◌≢◌, ◌⊎◌, ◌+◌, ◌<◌, ◌≤◌, ℕ, zero, suc, Bool, true, false, cond, nat_eq, nat_le, nat_lt, List, Option, Some, None, Result, Ok, Err, IfErr, refl, sym, ap, ◌∙◌, subst, inl, inr, arith}
use Rattle.std.specs.List.{list_any, range_with_len}
use Rattle.std.proofs.lemmas.Bool.{cases_Bool, ltb-true, ltb-false, leb-true, leb-false}
use Rattle.std.proofs.lemmas.Bool.Decides.{eqb_tells}
use Rattle.ipfix_elements.specs.declared.cell.Cell.{Cell}
use Rattle.flow_table.specs.Totals.{Total, joined, IsLargeAt}
use Rattle.flow_table.specs.Rows.{is_same_interval, is_same_key, part_at, place_part}
use Rattle.flow_table.specs.Flows.{is_in_run, run_part, flow_total, flow_part}
use Rattle.flow_table.specs.Intervals.{covers}
use Rattle.flow_table.specs.Plans.{PlanValue}
use Rattle.flow_table.specs.declared.table_fault.TableFault.{TableFault}
use Rattle.flow_table.specs.declared.table_fault.TableFault.TheVariants.{SumTooLarge}
use Rattle.flow_table.proofs.Keyed.{itself}
use Rattle.flow_table.proofs.Places.{keys_tell, intervals_tell}

pub run_tells : (first end k : ℕ) → ((is_in_run first end k ≡ true) × (first ≤ k) × (k < end)) ⊎ ((is_in_run first end k ≡ false) × ((k < first) ⊎ (end ≤ k)))
unfolding is_in_run
run_tells first end k =
    elim (cases_Bool (nat_le first k)) [
      | inl low ↦ elim (cases_Bool (nat_lt k end)) [
        | inl high ↦ inl (rw (low, high) refl, leb-true first k low, ltb-true k end high)
        | inr high ↦ inr (rw (low, high) refl, inr (ltb-false k end high))
      ]
      | inr low ↦ inr (rw low refl, inl (leb-false first k low))
    ]

in_run : (first end k : ℕ) → first ≤ k → k < end → is_in_run first end k ≡ true
in_run first end k low high = elim (run_tells first end k) [ inl y ↦ y.0 | inr n ↦ elim n.1 [ inl l ↦ absurd (omega arith) | inr h ↦ absurd (omega arith) ] ]

below_run : (first end k : ℕ) → k < first → is_in_run first end k ≡ false
below_run first end k low = elim (run_tells first end k) [ inl y ↦ absurd (omega arith) | inr n ↦ n.0 ]

above_run : (first end k : ℕ) → end ≤ k → is_in_run first end k ≡ false
above_run first end k high = elim (run_tells first end k) [ inl y ↦ absurd (omega arith) | inr n ↦ n.0 ]

-- one more interval
other_run : (first i k : ℕ) → k ≢ i → is_in_run first (i + 1) k ≡ is_in_run first i k
other_run first i k ne =
    elim (run_tells first i k) [
      | inl y ↦ in_run first (i + 1) k y.1 (omega (arith, y.2)) ∙ sym y.0
      | inr n ↦ elim n.1 [
        | inl low ↦ below_run first (i + 1) k low ∙ sym n.0
        | inr high ↦ above_run first (i + 1) k (omega arith) ∙ sym n.0
      ]
    ]

pub run_step : (init old new : ℕ → List Cell → Option Total) (f : ℕ → Total) (first i j : ℕ) (key : List Cell) → first ≤ i → j ≡ i + 1
    → ((k : ℕ) (q : List Cell) → old k q ≡ joined (init k q) (run_part first i key f k q))
    → ((k : ℕ) (q : List Cell) → new k q ≡ joined (old k q) (place_part i key (f i) k q))
    → (k : ℕ) (q : List Cell) → new k q ≡ joined (init k q) (run_part first j key f k q)
run_step init old new f first i j key low next before step k q =
    step k q ∙ elim (intervals_tell k i) [
      | inl y ↦
          let not_yet : is_in_run first i k ≡ false = above_run first i k (omega (arith, y.1)) in
          let now : is_in_run first j k ≡ true = in_run first j k (omega (arith, y.1)) (omega (arith, y.1)) in
          let was : old k q ≡ init k q = before k q ∙ ap (λ (b : Bool). joined (init k q) (cond b (part_at key (f k) q) None)) not_yet in
          rw (y.0, was, now) (ap (λ (n : ℕ). joined (init k q) (part_at key (f n) q)) (sym y.1))
      | inr n ↦
          let same : is_in_run first j k ≡ is_in_run first i k = ap (λ (m : ℕ). is_in_run first m k) next ∙ other_run first i k n.1 in
          rw (n.0, same) (before k q)
    ]

-- nothing yet
pub run_none : (init : ℕ → List Cell → Option Total) (f : ℕ → Total) (first : ℕ) (key : List Cell) (k : ℕ) (q : List Cell) → init k q ≡ joined (init k q) (run_part first first key f k q)
run_none init f first key k q =
    elim (run_tells first first k) [ inl y ↦ absurd (omega arith) | inr n ↦ rw n.0 refl ]

-- a place without room
pub run_large : (init old : ℕ → List Cell → Option Total) (f : ℕ → Total) (first end i : ℕ) (key : List Cell) → first ≤ i → i < end
    → ((k : ℕ) (q : List Cell) → old k q ≡ joined (init k q) (run_part first i key f k q))
    → IsLargeAt (joined (old i key) (Some (f i))) → IsLargeAt (joined (init i key) (run_part first end key f i key))
run_large init old f first end i key low high before big =
    let not_yet : is_in_run first i i ≡ false = above_run first i i (omega arith) in
    let in_it : is_in_run first end i ≡ true = in_run first end i low high in
    let was : old i key ≡ init i key = before i key ∙ ap (λ (b : Bool). joined (init i key) (cond b (part_at key (f i) key) None)) not_yet in
    let at : joined (init i key) (run_part first end key f i key) ≡ joined (init i key) (Some (f i)) =
    ap (λ (b : Bool). joined (init i key) (cond b (part_at key (f i) key) None)) in_it ∙ ap (λ (b : Bool). joined (init i key) (cond b (Some (f i)) None)) (itself is_same_key keys_tell key) in
    subst IsLargeAt (ap (λ (o : Option Total). joined o (Some (f i))) was ∙ sym at) big

-- the intervals of a run
pub in_range : (a n k : ℕ) → list_any (nat_eq k) (range_with_len a n) ≡ is_in_run a (a + n) k
in_range a zero k = sym (elim (run_tells a (a + 0) k) as (λ _. is_in_run a (a + 0) k ≡ false) [ inl y ↦ absurd (omega (arith, y.1, y.2)) | inr m ↦ m.0 ])
in_range a (suc n) k =
    elim (eqb_tells k a) [
      | inl y ↦ rw y.0 (sym (in_run a (a + suc n) k (omega (arith, y.1)) (omega (arith, y.1))))
      | inr m ↦ rw m.0 (in_range (a + 1) n k ∙ elim (run_tells (a + 1) (a + 1 + n) k) as (λ _. is_in_run (a + 1) (a + 1 + n) k ≡ is_in_run a (a + suc n) k) [
        | inl y ↦ y.0 ∙ sym (in_run a (a + suc n) k (omega (arith, y.1)) (omega (arith, y.2)))
        | inr o ↦ elim o.1 [
          | inl low ↦ o.0 ∙ sym (below_run a (a + suc n) k (lower a k low m.1))
          | inr high ↦ o.0 ∙ sym (above_run a (a + suc n) k (omega arith))
        ]
      ])
    ]
  where
    lower : (a k : ℕ) → k < a + 1 → k ≢ a → k < a
    lower a k low ne = omega arith

-- ---- a flow at all its intervals

pub flow_is : (plan : PlanValue) (s e : ℕ) (key : List Cell) (counters : List ℕ) (first n k : ℕ) (q : List Cell) → covers plan s e ≡ range_with_len first n
    → run_part first (first + n) key (flow_total plan s e counters) k q ≡ flow_part plan s e key counters k q
unfolding flow_part
flow_is plan s e key counters first n k q is =
    sym (ap (λ (ks : List ℕ). cond (list_any (nat_eq k) ks) (part_at key (flow_total plan s e counters k) q) None) is
    ∙ ap (λ (b : Bool). cond b (part_at key (flow_total plan s e counters k) q) None) (in_range first n k))

pub run_whole : (plan : PlanValue) (s e : ℕ) (key : List Cell) (counters : List ℕ) (init : ℕ → List Cell → Option Total) (first n k : ℕ) → covers plan s e ≡ range_with_len first n
    → IsLargeAt (joined (init k key) (run_part first (first + n) key (flow_total plan s e counters) k key))
    → IsLargeAt (joined (init k key) (flow_part plan s e key counters k key))
run_whole plan s e key counters init first n k is large =
    subst (λ (o : Option Total). IsLargeAt (joined (init k key) o)) (flow_is plan s e key counters first n k key is) large

pub run_done : (plan : PlanValue) (s e : ℕ) (key : List Cell) (counters : List ℕ) (init new : ℕ → List Cell → Option Total) (first n i : ℕ) → covers plan s e ≡ range_with_len first n → i ≡ first + n
    → ((k : ℕ) (q : List Cell) → new k q ≡ joined (init k q) (run_part first i key (flow_total plan s e counters) k q))
    → (k : ℕ) (q : List Cell) → new k q ≡ joined (init k q) (flow_part plan s e key counters k q)
run_done plan s e key counters init new first n i is end step k q =
    step k q ∙ ap (λ (j : ℕ). joined (init k q) (run_part first j key (flow_total plan s e counters) k q)) end
    ∙ ap (λ (o : Option Total). joined (init k q) o) (flow_is plan s e key counters first n k q is)

-- ---- one of its intervals, by what was read of it

pub step_words : (old new : ℕ → List Cell → Option Total) (plan : PlanValue) (s e i : ℕ) (key : List Cell) (counters numbers : List ℕ) → counters ≡ numbers
    → ((k : ℕ) (q : List Cell) → new k q ≡ joined (old k q) (place_part i key (flow_total plan s e counters i) k q))
    → (k : ℕ) (q : List Cell) → new k q ≡ joined (old k q) (place_part i key (flow_total plan s e numbers i) k q)
step_words old new plan s e i key counters numbers same step k q =
    step k q ∙ ap (λ (ns : List ℕ). joined (old k q) (place_part i key (flow_total plan s e ns i) k q)) same

pub large_words : (old : ℕ → List Cell → Option Total) (plan : PlanValue) (s e i : ℕ) (key : List Cell) (counters numbers : List ℕ) → counters ≡ numbers
    → IsLargeAt (joined (old i key) (Some (flow_total plan s e counters i))) → IsLargeAt (joined (old i key) (Some (flow_total plan s e numbers i)))
large_words old plan s e i key counters numbers same large =
    subst (λ (ns : List ℕ). IsLargeAt (joined (old i key) (Some (flow_total plan s e ns i)))) same large

-- ---- the interval that was added to last

own_place : (i : ℕ) (key : List Cell) (t : Total) → place_part i key t i key ≡ Some t
own_place i key t =
    ap (λ (b : Bool). cond b (part_at key t key) None) (itself is_same_interval intervals_tell i)
    ∙ ap (λ (b : Bool). cond b (Some t) None) (itself is_same_key keys_tell key)

pub large_last : (old : ℕ → List Cell → Option Total) (t : Total) (key : List Cell) (i : ℕ) (o : Option ℕ) (r : Result (Unit {0}) TableFault) → o ≡ Some i
    → IfErr r (λ e. e ≡ SumTooLarge → IsLargeAt (joined (old i key) (Some t)))
    → IfErr r (λ e. e ≡ SumTooLarge → (k : ℕ) × (o ≡ Some k) × IsLargeAt (joined (old k key) (place_part i key t k key)))
large_last old t key i o (Ok x) is large = tt
large_last old t key i o (Err e) is large = λ same. (i, is, subst (λ (p : Option Total). IsLargeAt (joined (old i key) p)) (sym (own_place i key t)) (large same))

some_same : (a b : ℕ) → Some a ≡ Some b → a ≡ b
some_same a b h = cc

pub last_large : (old : ℕ → List Cell → Option Total) (t : Total) (key : List Cell) (i : ℕ) (o : Option ℕ) → o ≡ Some i
    → (k : ℕ) × (o ≡ Some k) × IsLargeAt (joined (old k key) (place_part i key t k key)) → IsLargeAt (joined (old i key) (Some t))
last_large old t key i o is at =
    let same : at.0 ≡ i = some_same at.0 i (sym at.1 ∙ is) in
    let here = subst (λ (k : ℕ). IsLargeAt (joined (old k key) (place_part i key t k key))) same at.2 in
    subst (λ (p : Option Total). IsLargeAt (joined (old i key) p)) (own_place i key t) here
