-- What rows of a plan keep: none at first, one row more, and those of others.
use Rattle.std.proofs.Common.{◌≡◌, ◌⊎◌, ℕ, zero, suc, ◌+◌, ◌-◌, ◌^◌, ◌<◌, ◌≤◌, Bool, cond, List, [], ◌∷◌, ◌++◌, length, drop, get_or, Option, Some, None, refl, sym, ap, ◌∙◌, subst, inl, inr, arith}
use Rattle.std.specs.Ordering.{is_eq, nat_cmp, ordering_then}
use Rattle.std.specs.declared.cmp.Ordering.{Ordering}
use Rattle.std.specs.declared.cmp.Ordering.TheVariants.{Less, Equal, Greater}
use Rattle.std.proofs.lemmas.Bool.{cases_lt}
use Rattle.std.proofs.lemmas.Bool.Decides.{eqb_tells}
use Rattle.std.proofs.lemmas.Cmp.{nat_list_cmp_total, tied_itself}
use Rattle.flow_rows.specs.Rows.{Row as FlatRow, Small, SomeTooLarge, part, words_cmp}
use Rattle.flow_rows.proofs.Additive.{keys_same}
use Rattle.flow_rows.proofs.Found.{part_other}
use Rattle.flow_rows.proofs.Within.{part_own}
use Rattle.ipfix_elements.proofs.Lookups.{mapped}
use Rattle.ipfix_elements.specs.declared.cell.Cell.{Cell}
use Rattle.flow_table.specs.Plans.{PlanValue}
use Rattle.flow_table.specs.Rows.{AddsRow, AreAlike, AreRowsOf, IsPlace, IsTooLargeWithRow, depth_of, is_same_interval, is_same_key, kept_at, kept_by, number_at, padded_row, place_part, total_of_numbers, width_of}
use Rattle.flow_table.specs.Tables.{key_cmp, place_cmp}
use Rattle.flow_table.specs.Totals.{Total, total, added, joined, HasLarge, IsLarge, IsLargeAt}
use Rattle.flow_table.specs.Words.{first_of, key_from, key_words, padded, place_words, word_count}
use Rattle.flow_table.specs.declared.rows.Rows.{Rows}
use Rattle.flow_table.proofs.CellWords.{get_or-padded, key_back, key_long, key_rank, padded_is}
use Rattle.flow_table.proofs.Keyed.{itself}
use Rattle.flow_table.proofs.Octets.{then_equal}
use Rattle.flow_table.proofs.Places.{keys_tell, intervals_tell}
use Rattle.flow_table.proofs.Sums.{join_totals, totals_of}

-- ---- numbers

first_added : (n : ℕ) (f g h : ℕ → ℕ) → ((i : ℕ) → f i ≡ g i + h i) → first_of n f ≡ added (first_of n g) (first_of n h)
first_added zero f g h e = refl
first_added (suc n) f g h e =
    ap (λ (m : ℕ). m ∷ first_of n (λ i. f (suc i))) (e 0) ∙ ap (λ (ms : List ℕ). (g 0 + h 0) ∷ ms) (first_added n (λ i. f (suc i)) (λ i. g (suc i)) (λ i. h (suc i)) (λ i. e (suc i)))

first_same : (n : ℕ) (f g : ℕ → ℕ) → ((i : ℕ) → f i ≡ g i) → first_of n f ≡ first_of n g
first_same zero f g e = refl
first_same (suc n) f g e = ap (λ (m : ℕ). m ∷ first_of n (λ i. f (suc i))) (e 0) ∙ ap (λ (ms : List ℕ). g 0 ∷ ms) (first_same n (λ i. f (suc i)) (λ i. g (suc i)) (λ i. e (suc i)))

pub numbers_join : (n : ℕ) (f g h : ℕ → ℕ) → ((i : ℕ) → f i ≡ g i + h i) → (g 0 ≡ 0 → (i : ℕ) → g i ≡ 0) → (h 0 ≡ 0 → (i : ℕ) → h i ≡ 0)
    → total_of_numbers n f ≡ joined (total_of_numbers n g) (total_of_numbers n h)
numbers_join n f g h e zg zh =
    join_totals (first_of n (λ i. f (suc i))) (first_of n (λ i. g (suc i))) (first_of n (λ i. h (suc i))) (f 0) (g 0) (h 0) (e 0)
    (first_added n (λ i. f (suc i)) (λ i. g (suc i)) (λ i. h (suc i)) (λ i. e (suc i)))
    (λ m. first_same n (λ i. f (suc i)) (λ i. h (suc i)) (λ i. omega (arith, e (suc i), zg m (suc i))))
    (λ m. first_same n (λ i. f (suc i)) (λ i. g (suc i)) (λ i. omega (arith, e (suc i), zh m (suc i))))

pub numbers_none : (n : ℕ) (f : ℕ → ℕ) → f 0 ≡ 0 → total_of_numbers n f ≡ None
numbers_none n f e =
    elim (eqb_tells (f 0) 0) [
      | inl y ↦ ap (λ (b : Bool). cond b None (Some (total (first_of n (λ i. f (suc i))) (f 0)))) y.0
      | inr m ↦ absurd (m.1 e)
    ]

pub numbers_some : (n : ℕ) (f : ℕ → ℕ) → 0 < f 0 → total_of_numbers n f ≡ Some (total (first_of n (λ i. f (suc i))) (f 0))
numbers_some n f l =
    elim (eqb_tells (f 0) 0) [
      | inl y ↦ absurd (omega (arith, y.1))
      | inr m ↦ ap (λ (b : Bool). cond b None (Some (total (first_of n (λ i. f (suc i))) (f 0)))) m.0
    ]

first_large : (n : ℕ) (f : ℕ → ℕ) (i : ℕ) → i < n → 2 ^ 64 ≤ f i → HasLarge (first_of n f)
first_large zero f i l big = absurd (omega arith)
first_large (suc n) f zero l big = inl big
first_large (suc n) f (suc i) l big = inr (first_large n (λ j. f (suc j)) i (omega arith) big)

numbers_large_by : (n : ℕ) (f : ℕ → ℕ) (i : ℕ) → i ≤ n → 2 ^ 64 ≤ f i → IsLarge (total (first_of n (λ j. f (suc j))) (f 0))
numbers_large_by n f zero l big = inr big
numbers_large_by n f (suc i) l big = inl (first_large n (λ j. f (suc j)) i (omega arith) big)

numbers_large : (n : ℕ) (f : ℕ → ℕ) (i : ℕ) → 0 < f 0 → i ≤ n → 2 ^ 64 ≤ f i → IsLargeAt (total_of_numbers n f)
numbers_large n f i some l big = subst IsLargeAt (sym (numbers_some n f some)) (numbers_large_by n f i l big)

first_small : (n : ℕ) (f : ℕ → ℕ) → ((i : ℕ) → f i < 2 ^ 64) → HasLarge (first_of n f) → ⊥
first_small zero f s big = big
first_small (suc n) f s (inl big) = let l = s 0 in omega arith
first_small (suc n) f s (inr big) = first_small n (λ j. f (suc j)) (λ j. s (suc j)) big

small_by : (n : ℕ) (f : ℕ → ℕ) → ((i : ℕ) → f i < 2 ^ 64) → IsLarge (total (first_of n (λ j. f (suc j))) (f 0)) → ⊥
small_by n f s (inl big) = first_small n (λ j. f (suc j)) (λ j. s (suc j)) big
small_by n f s (inr big) = let l = s 0 in omega arith

numbers_small : (n : ℕ) (f : ℕ → ℕ) → ((i : ℕ) → f i < 2 ^ 64) → IsLargeAt (total_of_numbers n f) → ⊥
numbers_small n f s big =
    elim (eqb_tells (f 0) 0) [
      | inl y ↦ subst IsLargeAt (numbers_none n f y.1) big
      | inr m ↦ small_by n f s (subst IsLargeAt (numbers_some n f (elim (cases_lt 0 (f 0)) [ inl l ↦ l | inr g ↦ absurd (m.1 (omega arith)) ])) big)
    ]

kept_small_by : (plan : PlanValue) (rows : Rows) (o : Option (List ℕ)) → Small (number_at rows) → IsLargeAt (kept_by plan rows o) → ⊥
kept_small_by plan rows None s big = big
kept_small_by plan rows (Some ws) s big = numbers_small (length plan.counters) (number_at rows (padded (width_of rows) ws)) (λ i. s (padded (width_of rows) ws) i) big

pub kept_small : (plan : PlanValue) (rows : Rows) (k : ℕ) (q : List Cell) → Small (number_at rows) → IsLargeAt (kept_at plan rows k q) → ⊥
unfolding kept_at
kept_small plan rows k q s big = kept_small_by plan rows (place_words plan k q) s big

-- ---- places

list_same : (xs ys : List ℕ) → Some xs ≡ Some ys → xs ≡ ys
list_same xs ys h = cc

-- one place
abbrev pub SamePlace : ℕ → List Cell → ℕ → List Cell → Type 0
SamePlace k q j p = ◌≡◌ {A = ℕ × List Cell} (k, q) (j, p)

pub place_same : (k j : ℕ) (q p : List Cell) → k ≡ j → q ≡ p → SamePlace k q j p
place_same k j q p e f = cc

pad_drop : (w k : ℕ) (us : List ℕ) → suc (length us) ≤ w → padded w (k ∷ us) ≡ k ∷ us ++ padded (w - suc (length us)) []
pad_drop w k us l = padded_is w (k ∷ us) l

module _ (plan : PlanValue) where
  -- the words after the interval
  behind : (k : ℕ) (q : List Cell) (ws : List ℕ) → place_words plan k q ≡ Some ws → (us : List ℕ) × (key_words plan.kinds q ≡ Some us) × (k ∷ us ≡ ws)
  behind k q ws h = mapped (λ (us : List ℕ). k ∷ us) (key_words plan.kinds q) ws h

  spread_out : (w k : ℕ) (q : List Cell) (ws : List ℕ) → suc (word_count plan.kinds) ≤ w → place_words plan k q ≡ Some ws
      → (us : List ℕ) × (key_words plan.kinds q ≡ Some us) × (padded w ws ≡ k ∷ us ++ padded (w - suc (word_count plan.kinds)) [])
  spread_out w k q ws l h =
      let b = behind k q ws h in
      let n : length b.0 ≡ word_count plan.kinds = key_long plan.kinds q b.0 b.1 in
      (b.0, b.1, ap (padded w) (sym b.2) ∙ pad_drop w k b.0 (omega arith) ∙ ap (λ (m : ℕ). k ∷ b.0 ++ padded (w - suc m) []) n)

  -- a place is read back from its words
  pub interval_back : (w k : ℕ) (q : List Cell) (ws : List ℕ) → suc (word_count plan.kinds) ≤ w → place_words plan k q ≡ Some ws → get_or (padded w ws) 0 0 ≡ k
  interval_back w k q ws l h = let s = spread_out w k q ws l h in ap (λ (xs : List ℕ). get_or xs 0 0) s.2

  pub key_of_place : (w k : ℕ) (q : List Cell) (ws : List ℕ) → suc (word_count plan.kinds) ≤ w → place_words plan k q ≡ Some ws → key_from plan.kinds (drop 1 (padded w ws)) ≡ q
  key_of_place w k q ws l h =
      let s = spread_out w k q ws l h in
      ap (λ (xs : List ℕ). key_from plan.kinds (drop 1 xs)) s.2 ∙ key_back plan.kinds q s.0 (padded (w - suc (word_count plan.kinds)) []) s.1

  -- words tell their places
  pub words_tell : (w k j : ℕ) (q p : List Cell) (ws vs : List ℕ) → suc (word_count plan.kinds) ≤ w → place_words plan k q ≡ Some ws → place_words plan j p ≡ Some vs → padded w ws ≡ padded w vs → SamePlace k q j p
  words_tell w k j q p ws vs l h i e =
      place_same k j q p
      (sym (interval_back w k q ws l h) ∙ ap (λ (xs : List ℕ). get_or xs 0 0) e ∙ interval_back w j p vs l i)
      (sym (key_of_place w k q ws l h) ∙ ap (λ (xs : List ℕ). key_from plan.kinds (drop 1 xs)) e ∙ key_of_place w j p vs l i)

  -- words compare as places
  pub words_rank : (w k j : ℕ) (q p : List Cell) (ws vs : List ℕ) → suc (word_count plan.kinds) ≤ w → place_words plan k q ≡ Some ws → place_words plan j p ≡ Some vs → words_cmp (padded w ws) (padded w vs) ≡ place_cmp (k, q) (j, p)
  words_rank w k j q p ws vs l h i =
      let s = spread_out w k q ws l h in
      let t = spread_out w j p vs l i in
      let r = padded (w - suc (word_count plan.kinds)) [] in
      ap (λ (xs : List ℕ). words_cmp xs (padded w vs)) s.2 ∙ ap (λ (ys : List ℕ). words_cmp (k ∷ s.0 ++ r) ys) t.2
      ∙ ap (λ (o : Ordering). ordering_then (nat_cmp k j) o) (key_rank plan.kinds q p s.0 t.0 s.1 t.1 r r
      ∙ ap (λ (o : Ordering). ordering_then (key_cmp q p) o) (tied_itself nat_list_cmp_total r) ∙ sym (then_equal (key_cmp q p)))

-- ---- nothing yet

pub none_kept : (plan : PlanValue) (rows : Rows) → ((q : List ℕ) (i : ℕ) → number_at rows q i ≡ 0) → (k : ℕ) (q : List Cell) → kept_at plan rows k q ≡ None
unfolding kept_at
none_kept plan rows z k q = by (place_words plan k q)
  where
    by : (o : Option (List ℕ)) → kept_by plan rows o ≡ None
    by None = refl
    by (Some ws) = numbers_none (length plan.counters) (number_at rows (padded (width_of rows) ws)) (z (padded (width_of rows) ws) 0)

pub none_of_plan : (plan : PlanValue) (rows : Rows) → suc (word_count plan.kinds) ≤ width_of rows → suc (length plan.counters) ≤ depth_of rows → ((q : List ℕ) (i : ℕ) → number_at rows q i ≡ 0) → AreRowsOf plan rows
none_of_plan plan rows w d z =
    record {
      wide = w;
      deep = d;
      places = λ q some. absurd (omega (arith, z q 0));
      counted = λ q i e. z q i;
      none_behind = λ q i l. z q i;
    }

-- ---- one row more

pub own_or_none : (q : List ℕ) (x : FlatRow) → ((i : ℕ) → part q i x ≡ 0) ⊎ (x.key ≡ q)
own_or_none q x = by (words_cmp x.key q) refl
  where
    by : (r : Ordering) → words_cmp x.key q ≡ r → ((i : ℕ) → part q i x ≡ 0) ⊎ (x.key ≡ q)
    by Less e = inl (λ i. part_other q i x (ap is_eq e))
    by Equal e = inr (keys_same x.key q e)
    by Greater e = inl (λ i. part_other q i x (ap is_eq e))

own_number : (q : List ℕ) (x : FlatRow) (i : ℕ) → x.key ≡ q → part q i x ≡ get_or x.numbers i 0
own_number q x i e = subst (λ (p : List ℕ). part p i x ≡ get_or x.numbers i 0) e (part_own x i)

get_or-behind : (xs : List ℕ) (i : ℕ) → length xs ≤ i → get_or xs i 0 ≡ 0
get_or-behind [] i l = refl
get_or-behind (x ∷ xs) zero l = absurd (omega arith)
get_or-behind (x ∷ xs) (suc i) l = get_or-behind xs i (omega arith)

first_is : (xs : List ℕ) → first_of (length xs) (λ i. get_or xs i 0) ≡ xs
first_is [] = refl
first_is (x ∷ xs) = ap (λ (ys : List ℕ). x ∷ ys) (first_is xs)

row_total : (n flows : ℕ) (sums : List ℕ) → length sums ≡ n → 0 < flows → total_of_numbers n (λ i. get_or (flows ∷ sums) i 0) ≡ Some (total sums flows)
row_total n flows sums l some =
    numbers_some n (λ i. get_or (flows ∷ sums) i 0) some
    ∙ ap (λ (m : ℕ). Some (total (first_of m (λ i. get_or sums i 0)) flows)) (sym l) ∙ ap (λ (xs : List ℕ). Some (total xs flows)) (first_is sums)

pub total_same : (n : ℕ) (f g : ℕ → ℕ) → ((i : ℕ) → f i ≡ g i) → total_of_numbers n f ≡ total_of_numbers n g
total_same n f g e = ap (λ (m : ℕ). totals_of (first_of n (λ i. f (suc i))) m) (e 0) ∙ ap (λ (xs : List ℕ). totals_of xs (g 0)) (first_same n (λ i. f (suc i)) (λ i. g (suc i)) (λ i. e (suc i)))

module _ (plan : PlanValue) (old new : Rows) (k0 : ℕ) (q0 : List Cell) (ws : List ℕ) (flows : ℕ) (sums : List ℕ) (of : AreRowsOf plan old) (are : place_words plan k0 q0 ≡ Some ws) (some : 0 < flows) (long : length sums ≡ length plan.counters) where
  abbrev x0 : FlatRow
  x0 = padded_row old ws (flows ∷ sums)

  abbrev n0 : ℕ
  n0 = length plan.counters

  numbers_are : (i : ℕ) → get_or x0.numbers i 0 ≡ get_or (flows ∷ sums) i 0
  numbers_are i = get_or-padded (depth_of old) (flows ∷ sums) i (let d = of.deep in omega (arith, long))

  -- where a flow of the row is counted it has its numbers
  part_counted : (q : List ℕ) → part q 0 x0 ≡ 0 → (i : ℕ) → part q i x0 ≡ 0
  part_counted q e i =
      elim (own_or_none q x0) [
        | inl none ↦ none i
        | inr own ↦ absurd (omega (arith, own_number q x0 0 own, numbers_are 0))
      ]

  part_behind : (q : List ℕ) (i : ℕ) → n0 < i → part q i x0 ≡ 0
  part_behind q i l =
      elim (own_or_none q x0) [
        | inl none ↦ none i
        | inr own ↦ own_number q x0 i own ∙ numbers_are i ∙ get_or-behind (flows ∷ sums) i (omega (arith, long))
      ]

  pub add_keeps : AreAlike new old → AddsRow old ws (flows ∷ sums) new → AreRowsOf plan new
  add_keeps alike adds =
      record {
        wide = let w = of.wide in omega (arith, alike.0);
        deep = let d = of.deep in omega (arith, alike.1);
        places = λ q h. placed q h (own_or_none q x0);
        counted = λ q i e. omega (arith, adds q i, of.counted q i (omega (arith, adds q 0)), part_counted q (omega (arith, adds q 0)) i);
        none_behind = λ q i l. omega (arith, adds q i, of.none_behind q i l, part_behind q i l);
      }
    where
      placed : (q : List ℕ) → 0 < number_at new q 0 → ((i : ℕ) → part q i x0 ≡ 0) ⊎ (x0.key ≡ q) → IsPlace plan new q
      placed q h (inl none) =
          let p = of.places q (omega (arith, adds q 0, none 0)) in
          record { interval = p.interval; key = p.key; words = p.words; are = p.are; padded_are = p.padded_are ∙ ap (λ (w : ℕ). padded w p.words) (sym alike.0) }
      placed q h (inr own) =
          record { interval = k0; key = q0; words = ws; are = are; padded_are = sym own ∙ ap (λ (w : ℕ). padded w ws) (sym alike.0) }

  here_total : total_of_numbers n0 (λ i. part x0.key i x0) ≡ Some (total sums flows)
  here_total = total_same n0 (λ i. part x0.key i x0) (λ i. get_or (flows ∷ sums) i 0) (λ i. part_own x0 i ∙ numbers_are i) ∙ row_total n0 flows sums long some

  here_part : place_part k0 q0 (total sums flows) k0 q0 ≡ Some (total sums flows)
  here_part = rw (itself is_same_interval intervals_tell k0, itself is_same_key keys_tell q0) refl

  tells : (k : ℕ) (q : List Cell) → SamePlace k q k0 q0 ⊎ ((SamePlace k q k0 q0 → ⊥) × (place_part k0 q0 (total sums flows) k q ≡ None))
  tells k q =
      elim (intervals_tell k k0) [
        | inl y ↦ elim (keys_tell q q0) [
          | inl z ↦ inl (place_same k k0 q q0 y.1 z.1)
          | inr n ↦ inr (λ e. n.1 (ap (λ (w : ℕ × List Cell). w.1) e), rw (y.0, n.0) refl)
        ]
        | inr n ↦ inr (λ e. n.1 (ap (λ (w : ℕ × List Cell). w.0) e), rw n.0 refl)
      ]

  part_there : (k : ℕ) (q : List Cell) (vs : List ℕ) → place_words plan k q ≡ Some vs → total_of_numbers n0 (λ i. part (padded (width_of old) vs) i x0) ≡ place_part k0 q0 (total sums flows) k q
  part_there k q vs h =
      elim (own_or_none (padded (width_of old) vs) x0) [
        | inl none ↦ elim (tells k q) [
          | inl same ↦
              let e : vs ≡ ws = list_same vs ws (sym h ∙ ap (λ (z : ℕ × List Cell). place_words plan z.0 z.1) same ∙ are) in
              absurd (omega (arith, none 0, ap (λ (us : List ℕ). part (padded (width_of old) us) 0 x0) e, part_own x0 0, numbers_are 0))
          | inr other ↦ numbers_none n0 (λ i. part (padded (width_of old) vs) i x0) (none 0) ∙ sym other.1
        ]
        | inr own ↦
            let same = words_tell plan (width_of old) k k0 q q0 vs ws of.wide h are (sym own) in
            ap (λ (p : List ℕ). total_of_numbers n0 (λ i. part p i x0)) (sym own) ∙ here_total ∙ sym here_part
            ∙ ap (λ (z : ℕ × List Cell). place_part k0 q0 (total sums flows) z.0 z.1) (sym same)
      ]

  joins_by : AreAlike new old → AddsRow old ws (flows ∷ sums) new → (k : ℕ) (q : List Cell) (o : Option (List ℕ)) → place_words plan k q ≡ o → kept_by plan new o ≡ joined (kept_by plan old o) (place_part k0 q0 (total sums flows) k q)
  joins_by alike adds k q None h =
      elim (tells k q) [
        | inl same ↦ absurd (let t : None ≡ Some ws = sym h ∙ ap (λ (z : ℕ × List Cell). place_words plan z.0 z.1) same ∙ are in cc)
        | inr other ↦ ap (λ (o : Option Total). joined None o) (sym other.1)
      ]
  joins_by alike adds k q (Some vs) h =
      let w = padded (width_of old) vs in
      ap (λ (m : ℕ). total_of_numbers n0 (number_at new (padded m vs))) alike.0
      ∙ numbers_join n0 (number_at new w) (number_at old w) (λ i. part w i x0) (λ i. adds w i) (λ e i. of.counted w i e) (λ e i. part_counted w e i)
      ∙ ap (λ (o : Option Total). joined (total_of_numbers n0 (number_at old w)) o) (part_there k q vs h)

  pub add_joins : AreAlike new old → AddsRow old ws (flows ∷ sums) new → (k : ℕ) (q : List Cell) → kept_at plan new k q ≡ joined (kept_at plan old k q) (place_part k0 q0 (total sums flows) k q)
  unfolding kept_at
  add_joins alike adds k q = joins_by alike adds k q (place_words plan k q) refl

  large_by : SomeTooLarge (λ i. number_at old (padded (width_of old) ws) i + get_or (padded (depth_of old) (flows ∷ sums)) i 0) → IsLargeAt (joined (kept_by plan old (Some ws)) (Some (total sums flows)))
  large_by large =
      let w = padded (width_of old) ws in
      let i = large.0 in
      let big : 2 ^ 64 ≤ number_at old w i + get_or x0.numbers i 0 = large.1 in
      let f : ℕ → ℕ = λ j. number_at old w j + part w j x0 in
      let sum : total_of_numbers n0 f ≡ joined (total_of_numbers n0 (number_at old w)) (total_of_numbers n0 (λ j. part w j x0)) =
      numbers_join n0 f (number_at old w) (λ j. part w j x0) (λ j. refl) (λ e j. of.counted w j e) (λ e j. part_counted w e j) in
      subst IsLargeAt (sum ∙ ap (λ (o : Option Total). joined (total_of_numbers n0 (number_at old w)) o) here_total)
      (numbers_large n0 f i (omega (arith, part_own x0 0, numbers_are 0)) (within i big) (omega (arith, part_own x0 i)))
    where
      within : (i : ℕ) → 2 ^ 64 ≤ number_at old (padded (width_of old) ws) i + get_or x0.numbers i 0 → i ≤ n0
      within i big =
          elim (cases_lt n0 i) [
            | inl l ↦ absurd (omega (arith, of.none_behind (padded (width_of old) ws) i l, numbers_are i, get_or-behind (flows ∷ sums) i (omega (arith, long))))
            | inr g ↦ g
          ]

  pub add_large : IsTooLargeWithRow (number_at old) (padded_row old ws (flows ∷ sums)) → IsLargeAt (joined (kept_at plan old k0 q0) (Some (total sums flows)))
  unfolding kept_at
  add_large large = subst (λ (o : Option (List ℕ)). IsLargeAt (joined (kept_by plan old o) (Some (total sums flows)))) (sym are) (large_by large)

-- ---- the rows of others

-- the words are those of an interval and a key, whose totals in both are too large together
pub record IsLargePlace (plan : PlanValue) (a b : Rows) (words : List ℕ) : Type 0 where
  pub interval : ℕ
  pub others : List ℕ
  pub are : words ≡ interval ∷ others
  pub large : IsLargeAt (joined (kept_at plan a interval (key_from plan.kinds others)) (kept_at plan b interval (key_from plan.kinds others)))

module _ (plan : PlanValue) (a b : Rows) (of : AreRowsOf plan a) (others : AreRowsOf plan b) (same : width_of a ≡ width_of b) where
  pub merge_keeps : (both : Rows) → AreAlike both a → ((q : List ℕ) (i : ℕ) → number_at both q i ≡ number_at a q i + number_at b q i) → AreRowsOf plan both
  merge_keeps both alike sum =
      record {
        wide = let w = of.wide in omega (arith, alike.0);
        deep = let d = of.deep in omega (arith, alike.1);
        places = λ q h. elim (cases_lt 0 (number_at a q 0)) [
          | inl l ↦ let p = of.places q l in record { interval = p.interval; key = p.key; words = p.words; are = p.are; padded_are = p.padded_are ∙ ap (λ (w : ℕ). padded w p.words) (sym alike.0) }
          | inr g ↦ let p = others.places q (omega (arith, sum q 0)) in record { interval = p.interval; key = p.key; words = p.words; are = p.are; padded_are = p.padded_are ∙ ap (λ (w : ℕ). padded w p.words) (sym same ∙ sym alike.0) }
        ];
        counted = λ q i e. omega (arith, sum q i, of.counted q i (omega (arith, sum q 0)), others.counted q i (omega (arith, sum q 0)));
        none_behind = λ q i l. omega (arith, sum q i, of.none_behind q i l, others.none_behind q i l);
      }

  sums_by : (f : List ℕ → ℕ → ℕ) → ((q : List ℕ) (i : ℕ) → f q i ≡ number_at a q i + number_at b q i) → (ws : List ℕ)
      → total_of_numbers (length plan.counters) (f (padded (width_of a) ws)) ≡ joined (kept_by plan a (Some ws)) (kept_by plan b (Some ws))
  sums_by f sum ws =
      let w = padded (width_of a) ws in
      numbers_join (length plan.counters) (f w) (number_at a w) (number_at b w) (λ i. sum w i) (λ e i. of.counted w i e) (λ e i. others.counted w i e)
      ∙ ap (λ (m : ℕ). joined (kept_by plan a (Some ws)) (total_of_numbers (length plan.counters) (number_at b (padded m ws)))) same

  merged_by : (both : Rows) → AreAlike both a → ((q : List ℕ) (i : ℕ) → number_at both q i ≡ number_at a q i + number_at b q i) → (o : Option (List ℕ)) → kept_by plan both o ≡ joined (kept_by plan a o) (kept_by plan b o)
  merged_by both alike sum None = refl
  merged_by both alike sum (Some ws) = ap (λ (m : ℕ). total_of_numbers (length plan.counters) (number_at both (padded m ws))) alike.0 ∙ sums_by (number_at both) sum ws

  pub merge_joins : (both : Rows) → AreAlike both a → ((q : List ℕ) (i : ℕ) → number_at both q i ≡ number_at a q i + number_at b q i) → (k : ℕ) (q : List Cell) → kept_at plan both k q ≡ joined (kept_at plan a k q) (kept_at plan b k q)
  unfolding kept_at
  merge_joins both alike sum k q = merged_by both alike sum (place_words plan k q)

  place_in : (q : List ℕ) → 0 < number_at a q 0 + number_at b q 0 → IsPlace plan a q
  place_in q h = elim (cases_lt 0 (number_at a q 0)) [
    | inl l ↦ of.places q l
    | inr g ↦ let p = others.places q (omega arith) in record { interval = p.interval; key = p.key; words = p.words; are = p.are; padded_are = p.padded_are ∙ ap (λ (w : ℕ). padded w p.words) (sym same) }
  ]

  some_counted : (q : List ℕ) (i : ℕ) → 0 < number_at a q i + number_at b q i → 0 < number_at a q 0 + number_at b q 0
  some_counted q i h = elim (cases_lt 0 (number_at a q 0 + number_at b q 0)) [
    | inl l ↦ l
    | inr g ↦ absurd (omega (arith, of.counted q i (omega arith), others.counted q i (omega arith)))
  ]

  few : (q : List ℕ) (i : ℕ) → 0 < number_at a q i + number_at b q i → i ≤ length plan.counters
  few q i h = elim (cases_lt (length plan.counters) i) [
    | inl l ↦ absurd (omega (arith, of.none_behind q i l, others.none_behind q i l))
    | inr g ↦ g
  ]

  -- where a number is too large, the words are those of an interval and a key whose totals are
  pub merge_large : (q : List ℕ) → SomeTooLarge (λ i. number_at a q i + number_at b q i) → IsLargePlace plan a b q
  unfolding kept_at
  merge_large q large =
      let i = large.0 in
      let big : 2 ^ 64 ≤ number_at a q i + number_at b q i = large.1 in
      let some = some_counted q i (omega arith) in
      let p = place_in q some in
      let f : List ℕ → ℕ → ℕ = λ r j. number_at a r j + number_at b r j in
      let there : IsLargeAt (total_of_numbers (length plan.counters) (f (padded (width_of a) p.words))) =
      subst (λ (r : List ℕ). IsLargeAt (total_of_numbers (length plan.counters) (f r))) p.padded_are (numbers_large (length plan.counters) (f q) i some (few q i (omega arith)) big) in
      let here : IsLargeAt (joined (kept_by plan a (place_words plan p.interval p.key)) (kept_by plan b (place_words plan p.interval p.key))) =
      subst (λ (o : Option (List ℕ)). IsLargeAt (joined (kept_by plan a o) (kept_by plan b o))) (sym p.are) (subst IsLargeAt (sums_by f (λ r j. refl) p.words) there) in
      let split = spread_out plan (width_of a) p.interval p.key p.words of.wide p.are in
      let zeros = padded (width_of a - suc (word_count plan.kinds)) [] in
      record {
        interval = p.interval;
        others = split.0 ++ zeros;
        are = p.padded_are ∙ split.2;
        large = subst (λ (cells : List Cell). IsLargeAt (joined (kept_by plan a (place_words plan p.interval cells)) (kept_by plan b (place_words plan p.interval cells))))
            (sym (key_back plan.kinds p.key split.0 zeros split.1)) here;
      }
