-- What records lack, counted: of lists one after the other, of one record, and beside the tally.
use Rattle.std.proofs.Common.{◌≡◌, ◌≢◌, ◌+◌, ◌-◌, ◌^◌, ◌<◌, ◌≤◌, ◌==◌, ◌&&◌, ◌⊎◌, min, ℕ, zero, suc, Bool, true, false, not, cond, List, [], ◌∷◌, ◌++◌, length, map, filter, get_or, set, length-set, take, add-one, All, sum, nat_lt, Option, Some, None, is_some, is_none, option_map, option_and_then, refl, sym, ap, ◌∙◌, subst, inl, inr, arith}
use Rattle.std.specs.List.{range_with_len}
use Rattle.std.proofs.lemmas.Bool.{cases_lt, leb-true}
use Rattle.std.proofs.lemmas.Bool.Decides.{eqb_tells}
use Rattle.std.proofs.lemmas.List.{get_or-set_same, get_or-set_other}
use Rattle.std.proofs.lemmas.List.Elements.{All-nil, All-cons, All-head, All-tail}
use Rattle.std.proofs.lemmas.List.Sums.{sum_by-cons}
use Rattle.std.proofs.lemmas.List.FromFn.{get_or-map-range_with_len, length-map-range_with_len}
use Rattle.ipfix_elements.specs.declared.cell.Cell.{Cell}
use Rattle.ipfix_elements.specs.declared.kind.Kind.{Kind}
use Rattle.ipfix_wire.specs.declared.specifier.ElementId.{ElementId}
use Rattle.ipfix_message.specs.declared.record.DataRecord.{DataRecord}
use Rattle.flow_table.specs.declared.class.Class.{Class}
use Rattle.flow_table.specs.declared.class.Class.TheVariants as classes
use Rattle.flow_table.specs.declared.key.Key.{Key}
use Rattle.flow_table.specs.declared.left_out.LeftOut.{LeftOut}
use Rattle.flow_table.specs.declared.left_out.LeftOut.TheVariants.{Options, WithoutStart, WithoutEnd, Backward, WithoutKey, TooLong}
use Rattle.flow_table.specs.declared.missing.Missing.{Missing}
use Rattle.flow_table.specs.declared.plan.TheConstants.{MAX_KEYS, MAX_COUNTERS}
use Rattle.flow_table.specs.LeftOut.{class_in, missing_in, IsLeftOut}
use Rattle.flow_table.specs.Missing.{by_place, first_without, how_many, is_absent_at, is_place, lacks_start, lacks_end, lacks_key, lacks_counter, missing_of, missing_sum, IsSmall}
use Rattle.flow_table.specs.Partials.{NotesMore}
use Rattle.flow_table.specs.Plans.{PlanValue, IsPlan}
use Rattle.flow_table.specs.Reading.{cell_of, cells_of, class_of, end_of, flow_class, is_class, is_too_long, key_of, number_of, start_of}
use Rattle.flow_table.specs.Readings.{Notes}
use Rattle.flow_table.specs.Tables.{count_of, tally_of, IsTooLarge}
use Rattle.flow_table.specs.Totals.{added}
use Rattle.flow_table.proofs.Sums.{added_map, same_map, count-append}

abbrev pub missing : ℕ → ℕ → List ℕ → List ℕ → Missing
missing start end keys counters = record { start = start; end = end; keys = keys; counters = counters }

pub same_missing : (a b a' b' : ℕ) (c d c' d' : List ℕ) → a ≡ a' → b ≡ b' → c ≡ c' → d ≡ d' → missing a b c d ≡ missing a' b' c' d'
same_missing a b a' b' c d c' d' p q r s = rw (p, q, r, s) refl

-- ---- numbers by place

all_map : (P : ℕ → Type 0) (f : ℕ → ℕ) → ((k : ℕ) → P (f k)) → (ks : List ℕ) → All P (map f ks)
all_map P f every [] = All-nil P
all_map P f every (k ∷ ks) = All-cons P (f k) (map f ks) (every k) (all_map P f every ks)

-- nothing is added
added_zeros : (xs ks : List ℕ) → added xs (map (λ (k : ℕ). 0) ks) ≡ xs
added_zeros [] ks = refl
added_zeros (x ∷ xs) [] = refl
added_zeros (x ∷ xs) (k ∷ ks) =
    let first : x + 0 ≡ x = omega arith in
    let others = added_zeros xs ks in
    cc

-- sums that are right where they fit, and all of which fit
pub sums_done : (xs ys zs : List ℕ) → length zs ≡ length xs → length ys ≡ length xs
    → ((i : ℕ) → i < length xs → get_or xs i 0 + get_or ys i 0 < 2 ^ 64 → get_or zs i 0 ≡ get_or xs i 0 + get_or ys i 0)
    → All (λ n. n < 2 ^ 64) (added xs ys) → zs ≡ added xs ys
sums_done [] ys [] long same at small = refl
sums_done [] ys (z ∷ zs) long same at small = absurd (omega arith)
sums_done (x ∷ xs) [] zs long same at small = absurd (omega arith)
sums_done (x ∷ xs) (y ∷ ys) [] long same at small = absurd (omega arith)
sums_done (x ∷ xs) (y ∷ ys) (z ∷ zs) long same at small =
    let first : z ≡ x + y = at 0 (omega arith) (All-head (λ n. n < 2 ^ 64) (x + y) (added xs ys) small) in
    let others : zs ≡ added xs ys = sums_done xs ys zs (omega arith) (omega arith) (λ i inside fits. at (suc i) (omega arith) fits) (All-tail (λ n. n < 2 ^ 64) (x + y) (added xs ys) small) in
    cc

-- one more at a place
pub place_noted : (n : ℕ) (xs new : List ℕ) (place : ℕ) → length xs ≡ n → place < n → new ≡ set xs place (min (get_or xs place 0 + 1) (2 ^ 64 - 1))
    → All (λ m. m < 2 ^ 64) (added xs (by_place n (λ k. cond (k == place) 1 0))) → new ≡ added xs (by_place n (λ k. cond (k == place) 1 0))
place_noted n xs new place long inside is small =
    sums_done xs (by_place n hot) new (ap length is ∙ length-set xs place _) (length-map-range_with_len hot 0 n ∙ sym long) at small
  where
    hot : ℕ → ℕ
    hot k = cond (k == place) 1 0

    at : (i : ℕ) → i < length xs → get_or xs i 0 + get_or (by_place n (λ k. cond (k == place) 1 0)) i 0 < 2 ^ 64 → get_or new i 0 ≡ get_or xs i 0 + get_or (by_place n (λ k. cond (k == place) 1 0)) i 0
    at i within fits =
        let here : get_or (by_place n (λ k. cond (k == place) 1 0)) i 0 ≡ cond (i == place) 1 0 = get_or-map-range_with_len (λ k. cond (k == place) 1 0) 0 n i i 0 (omega arith) (omega arith) in
        elim (eqb_tells i place) [
          | inl same ↦
              let one : ◌≡◌ {A = ℕ} (cond (i == place) 1 0) 1 = ap (λ (b : Bool). cond b 1 0) same.0 in
              let there : get_or new place 0 ≡ min (get_or xs place 0 + 1) (2 ^ 64 - 1) = ap (λ (l : List ℕ). get_or l place 0) is ∙ get_or-set_same xs place _ 0 (omega arith) in
              let moved : get_or new i 0 ≡ get_or new place 0 = ap (λ (j : ℕ). get_or new j 0) same.1 in
              let old : get_or xs i 0 ≡ get_or xs place 0 = ap (λ (j : ℕ). get_or xs j 0) same.1 in
              omega arith
          | inr other ↦
              let none : ◌≡◌ {A = ℕ} (cond (i == place) 1 0) 0 = ap (λ (b : Bool). cond b 1 0) other.0 in
              let there : get_or new i 0 ≡ get_or xs i 0 = ap (λ (l : List ℕ). get_or l i 0) is ∙ get_or-set_other xs place i _ 0 other.1 in
              omega arith
        ]

-- ---- one list after the other

how_many-append : (test : DataRecord → Bool) (rs qs : List DataRecord) → how_many test (rs ++ qs) ≡ how_many test rs + how_many test qs
unfolding how_many
how_many-append test rs qs = count-append test rs qs

pub missing_of-append : (plan : PlanValue) (rs qs : List DataRecord) → missing_of plan (rs ++ qs) ≡ missing_sum (missing_of plan rs) (missing_of plan qs)
unfolding missing_of
missing_of-append plan rs qs =
    same_missing _ _ _ _ _ _ _ _ (how_many-append (lacks_start plan) rs qs) (how_many-append (lacks_end plan) rs qs)
    (added_map (λ k. how_many (lacks_key plan k) (rs ++ qs)) (λ k. how_many (lacks_key plan k) rs) (λ k. how_many (lacks_key plan k) qs) (λ k. how_many-append (lacks_key plan k) rs qs) (range_with_len 0 MAX_KEYS))
    (added_map (λ c. how_many (lacks_counter plan c) (rs ++ qs)) (λ c. how_many (lacks_counter plan c) rs) (λ c. how_many (lacks_counter plan c) qs) (λ c. how_many-append (lacks_counter plan c) rs qs) (range_with_len 0 MAX_COUNTERS))

pub missing_of-none : (plan : PlanValue) → missing_of plan [] ≡ missing 0 0 (by_place MAX_KEYS (λ k. 0)) (by_place MAX_COUNTERS (λ c. 0))
unfolding missing_of how_many
missing_of-none plan = refl

-- ---- beside the tally

-- a stricter test holds for no more records
one_fewer : (r : DataRecord) (ps qs : List DataRecord) (x y : Bool) → length ps ≤ length qs → length (cond (x && y) (r ∷ ps) ps) ≤ length (cond x (r ∷ qs) qs)
one_fewer r ps qs true true h = omega arith
one_fewer r ps qs true false h = omega arith
one_fewer r ps qs false y h = h

fewer : (a b : DataRecord → Bool) (rs : List DataRecord) → length (filter (λ r. a r && b r) rs) ≤ length (filter a rs)
fewer a b [] = omega arith
fewer a b (r ∷ rs) = one_fewer r (filter (λ q. a q && b q) rs) (filter a rs) (a r) (b r) (fewer a b rs)

in_class : (plan : PlanValue) (class : Class) (test : DataRecord → Bool) (rs : List DataRecord) → how_many (λ r. is_class class (class_of plan r) && test r) rs ≤ count_of plan rs class
unfolding how_many count_of
in_class plan class test rs = fewer (λ r. is_class class (class_of plan r)) test rs

count_small : (plan : PlanValue) (rs : List DataRecord) (class : Class) → (IsTooLarge plan rs → ⊥) → count_of plan rs class < 2 ^ 64
count_small plan rs class small =
    elim (cases_lt (count_of plan rs class) (2 ^ 64)) as (λ _. count_of plan rs class < 2 ^ 64)
    [ inl fits ↦ fits | inr large ↦ absurd (small (inr (inr (class, large)))) ]

pub missing_small : (plan : PlanValue) (rs : List DataRecord) → (IsTooLarge plan rs → ⊥) → IsSmall (missing_of plan rs)
unfolding missing_of
missing_small plan rs small =
    record {
      start = omega (arith, in_class plan classes.Untimed (λ r. is_none (start_of plan.choices.times r)) rs, count_small plan rs classes.Untimed small);
      end = omega (arith, in_class plan classes.Untimed (λ r. is_some (start_of plan.choices.times r)) rs, count_small plan rs classes.Untimed small);
      keys = all_map (λ n. n < 2 ^ 64) (λ k. how_many (lacks_key plan k) rs) (λ k. omega (arith, in_class plan classes.Unkeyed (λ r. is_place k (first_without plan.keys plan.kinds r)) rs, count_small plan rs classes.Unkeyed small)) (range_with_len 0 MAX_KEYS);
      counters = all_map (λ n. n < 2 ^ 64) (λ c. how_many (lacks_counter plan c) rs) (λ c. omega (arith, in_class plan classes.Used (λ r. is_absent_at plan.counters c r) rs, count_small plan rs classes.Used small)) (range_with_len 0 MAX_COUNTERS);
    }

-- ---- one record

one_of_test : (test : DataRecord → Bool) (r : DataRecord) → how_many test (r ∷ []) ≡ cond (test r) 1 0
unfolding how_many
one_of_test test r = elim (test r) as (λ b. length (cond b (r ∷ []) []) ≡ cond b 1 0) [ true ↦ refl | false ↦ refl ]

-- what one record of a class lacks
abbrev of_class : PlanValue → DataRecord → Class → Missing
of_class plan r class =
    missing (cond (is_class classes.Untimed class && is_none (start_of plan.choices.times r)) 1 0) (cond (is_class classes.Untimed class && is_some (start_of plan.choices.times r)) 1 0)
    (by_place MAX_KEYS (λ k. cond (is_class classes.Unkeyed class && is_place k (first_without plan.keys plan.kinds r)) 1 0))
    (by_place MAX_COUNTERS (λ c. cond (is_class classes.Used class && is_absent_at plan.counters c r) 1 0))

of_one : (plan : PlanValue) (r : DataRecord) → missing_of plan (r ∷ []) ≡ of_class plan r (class_of plan r)
unfolding missing_of
of_one plan r =
    same_missing _ _ _ _ _ _ _ _ (one_of_test (lacks_start plan) r) (one_of_test (lacks_end plan) r)
    (same_map (λ k. how_many (lacks_key plan k) (r ∷ [])) (λ k. cond (lacks_key plan k r) 1 0) (λ k. one_of_test (lacks_key plan k) r) (range_with_len 0 MAX_KEYS))
    (same_map (λ c. how_many (lacks_counter plan c) (r ∷ [])) (λ c. cond (lacks_counter plan c r) 1 0) (λ c. one_of_test (lacks_counter plan c) r) (range_with_len 0 MAX_COUNTERS))

of_this_class : (plan : PlanValue) (r : DataRecord) (class : Class) → class_of plan r ≡ class → missing_of plan (r ∷ []) ≡ of_class plan r class
of_this_class plan r class is = of_one plan r ∙ ap (of_class plan r) is

no_start : (o : Option ℕ) → is_some o ≡ true → ◌≡◌ {A = ℕ} (cond (is_none o) 1 0) 0
no_start None h = cc
no_start (Some n) h = refl

-- a record that is left out lacks what its reason says
pub left_missing : (plan : PlanValue) (r : DataRecord) (left_out : LeftOut) → IsLeftOut plan r left_out → missing_of plan (r ∷ []) ≡ missing_in left_out
unfolding missing_in
left_missing plan r Options is = of_this_class plan r classes.Options is.class
left_missing plan r WithoutStart is =
    of_this_class plan r classes.Untimed is.class
    ∙ ap (λ (o : Option ℕ). missing (cond (is_none o) 1 0) (cond (is_some o) 1 0) (by_place MAX_KEYS (λ k. 0)) (by_place MAX_COUNTERS (λ c. 0))) is.lacks
left_missing plan r WithoutEnd is =
    of_this_class plan r classes.Untimed is.class
    ∙ same_missing _ _ _ _ _ _ _ _ (no_start (start_of plan.choices.times r) is.lacks) (ap (λ (b : Bool). cond b 1 0) is.lacks) refl refl
left_missing plan r Backward is = of_this_class plan r classes.Backward is.class
left_missing plan r (WithoutKey place) is =
    of_this_class plan r classes.Unkeyed is.class
    ∙ ap (λ (o : Option ℕ). missing 0 0 (by_place MAX_KEYS (λ k. cond (is_place k o) 1 0)) (by_place MAX_COUNTERS (λ c. 0))) is.lacks
left_missing plan r TooLong is = of_this_class plan r classes.TooLong is.class

-- ---- one more that is left out

nothing_noted : (m : Missing) → m ≡ missing_sum m (missing 0 0 (by_place MAX_KEYS (λ k. 0)) (by_place MAX_COUNTERS (λ c. 0)))
nothing_noted m = same_missing _ _ _ _ _ _ _ _ (omega arith) (omega arith) (sym (added_zeros m.keys (range_with_len 0 MAX_KEYS))) (sym (added_zeros m.counters (range_with_len 0 MAX_COUNTERS)))

pub start_noted : (m : Missing) (why : LeftOut) (n : ℕ) → why ≡ WithoutStart → n ≡ min (m.start + 1) (2 ^ 64 - 1) → IsSmall (missing_sum m (missing_in why))
    → missing n m.end m.keys m.counters ≡ missing_sum m (missing_in why)
unfolding missing_in
start_noted m why n is sum small =
    let fits : IsSmall (missing_sum m (missing_in WithoutStart)) = subst (λ (w : LeftOut). IsSmall (missing_sum m (missing_in w))) is small in
    let below : m.start + 1 < 2 ^ 64 = fits.start in
    same_missing _ _ _ _ _ _ _ _ (omega arith) (omega arith) (sym (added_zeros m.keys (range_with_len 0 MAX_KEYS))) (sym (added_zeros m.counters (range_with_len 0 MAX_COUNTERS)))
    ∙ ap (λ (w : LeftOut). missing_sum m (missing_in w)) (sym is)

pub end_noted : (m : Missing) (why : LeftOut) (n : ℕ) → why ≡ WithoutEnd → n ≡ min (m.end + 1) (2 ^ 64 - 1) → IsSmall (missing_sum m (missing_in why))
    → missing m.start n m.keys m.counters ≡ missing_sum m (missing_in why)
unfolding missing_in
end_noted m why n is sum small =
    let fits : IsSmall (missing_sum m (missing_in WithoutEnd)) = subst (λ (w : LeftOut). IsSmall (missing_sum m (missing_in w))) is small in
    let below : m.end + 1 < 2 ^ 64 = fits.end in
    same_missing _ _ _ _ _ _ _ _ (omega arith) (omega arith) (sym (added_zeros m.keys (range_with_len 0 MAX_KEYS))) (sym (added_zeros m.counters (range_with_len 0 MAX_COUNTERS)))
    ∙ ap (λ (w : LeftOut). missing_sum m (missing_in w)) (sym is)

pub key_noted : (m : Missing) (why : LeftOut) (place : ℕ) (keys : List ℕ) → why ≡ WithoutKey place → length m.keys ≡ MAX_KEYS → place < MAX_KEYS → keys ≡ set m.keys place (min (get_or m.keys place 0 + 1) (2 ^ 64 - 1))
    → IsSmall (missing_sum m (missing_in why)) → missing m.start m.end keys m.counters ≡ missing_sum m (missing_in why)
unfolding missing_in
key_noted m why place keys is long inside noted small =
    let fits : IsSmall (missing_sum m (missing_in (WithoutKey place))) = subst (λ (w : LeftOut). IsSmall (missing_sum m (missing_in w))) is small in
    same_missing _ _ _ _ _ _ _ _ (omega arith) (omega arith) (place_noted MAX_KEYS m.keys keys place long inside noted fits.keys) (sym (added_zeros m.counters (range_with_len 0 MAX_COUNTERS)))
    ∙ ap (λ (w : LeftOut). missing_sum m (missing_in w)) (sym is)

-- no key is there
far_place : (place n start : ℕ) → start + n ≤ place → map {B = ℕ} (λ k. cond (k == place) 1 0) (range_with_len start n) ≡ map (λ (k : ℕ). 0) (range_with_len start n)
far_place place zero start past = refl
far_place place (suc n) start past =
    let others = far_place place n (start + 1) (omega arith) in
    elim (eqb_tells start place) [
      | inl same ↦ absurd (omega (arith, same.1))
      | inr other ↦ let none : ◌≡◌ {A = ℕ} (cond (start == place) 1 0) 0 = ap (λ (b : Bool). cond b 1 0) other.0 in cc
    ]

pub other_noted : (m : Missing) (why : LeftOut) → (why ≡ Options) ⊎ ((why ≡ Backward) ⊎ (why ≡ TooLong)) → m ≡ missing_sum m (missing_in why)
unfolding missing_in
other_noted m why (inl is) = nothing_noted m ∙ ap (λ (w : LeftOut). missing_sum m (missing_in w)) (sym is)
other_noted m why (inr (inl is)) = nothing_noted m ∙ ap (λ (w : LeftOut). missing_sum m (missing_in w)) (sym is)
other_noted m why (inr (inr is)) = nothing_noted m ∙ ap (λ (w : LeftOut). missing_sum m (missing_in w)) (sym is)

pub far_key_noted : (m : Missing) (why : LeftOut) (place : ℕ) → why ≡ WithoutKey place → MAX_KEYS ≤ place → m ≡ missing_sum m (missing_in why)
unfolding missing_in
far_key_noted m why place is past =
    nothing_noted m ∙ ap (λ (ks : List ℕ). missing_sum m (missing 0 0 ks (by_place MAX_COUNTERS (λ c. 0)))) (sym (far_place place MAX_KEYS 0 past))
    ∙ ap (λ (w : LeftOut). missing_sum m (missing_in w)) (sym is)

-- ---- two lists together

saturated : (xs ys zs : List ℕ) → length zs ≡ length xs → length ys ≡ length xs → ((i : ℕ) → i < length xs → get_or zs i 0 ≡ min (get_or xs i 0 + get_or ys i 0) (2 ^ 64 - 1))
    → All (λ n. n < 2 ^ 64) (added xs ys) → zs ≡ added xs ys
saturated xs ys zs long same at small = sums_done xs ys zs long same (λ i inside fits. let here = at i inside in omega arith) small

pub all_noted : (a b c : Missing) → length a.keys ≡ length b.keys → length a.counters ≡ length b.counters → length c.keys ≡ length a.keys → length c.counters ≡ length a.counters
    → c.start ≡ min (a.start + b.start) (2 ^ 64 - 1) → c.end ≡ min (a.end + b.end) (2 ^ 64 - 1)
    → ((i : ℕ) → i < length a.keys → get_or c.keys i 0 ≡ min (get_or a.keys i 0 + get_or b.keys i 0) (2 ^ 64 - 1))
    → ((i : ℕ) → i < length a.counters → get_or c.counters i 0 ≡ min (get_or a.counters i 0 + get_or b.counters i 0) (2 ^ 64 - 1))
    → IsSmall (missing_sum a b) → c ≡ missing_sum a b
all_noted a b c keys counters long wide start end at_keys at_counters small =
    let s : a.start + b.start < 2 ^ 64 = small.start in
    let e : a.end + b.end < 2 ^ 64 = small.end in
    same_missing _ _ _ _ _ _ _ _ (omega arith) (omega arith)
    (saturated a.keys b.keys c.keys long (sym keys) at_keys small.keys) (saturated a.counters b.counters c.counters wide (sym counters) at_counters small.counters)

pub not_used : (left_out : LeftOut) → class_in left_out ≢ classes.Used
not_used Options = λ h. cc h
not_used WithoutStart = λ h. cc h
not_used WithoutEnd = λ h. cc h
not_used Backward = λ h. cc h
not_used (WithoutKey place) = λ h. cc h
not_used TooLong = λ h. cc h

-- ---- counters

-- the counters that a used record lacks are counted
pub used_noted : (plan : PlanValue) (r : DataRecord) (before : Missing) (counters : List ℕ) → class_of plan r ≡ classes.Used → length before.counters ≡ MAX_COUNTERS
    → Notes before.counters plan.counters r counters → NotesMore plan before (r ∷ []) (missing before.start before.end before.keys counters)
used_noted plan r before counters used long notes small =
    same_missing _ _ _ _ _ _ _ _ (omega arith) (omega arith) (sym (added_zeros before.keys (range_with_len 0 MAX_KEYS)))
    (sums_done before.counters (by_place MAX_COUNTERS lacking) counters notes.long (length-map-range_with_len lacking 0 MAX_COUNTERS ∙ sym long) at fits.counters)
    ∙ ap (missing_sum before) (sym is)
  where
    lacking : ℕ → ℕ
    lacking c = cond (is_absent_at plan.counters c r) 1 0

    is : missing_of plan (r ∷ []) ≡ missing 0 0 (by_place MAX_KEYS (λ k. 0)) (by_place MAX_COUNTERS (λ c. cond (is_absent_at plan.counters c r) 1 0))
    is = of_this_class plan r classes.Used used

    fits : IsSmall (missing_sum before (missing 0 0 (by_place MAX_KEYS (λ k. 0)) (by_place MAX_COUNTERS (λ c. cond (is_absent_at plan.counters c r) 1 0))))
    fits = subst (λ (m : Missing). IsSmall (missing_sum before m)) is small

    at : (i : ℕ) → i < length before.counters → get_or before.counters i 0 + get_or (by_place MAX_COUNTERS (λ c. cond (is_absent_at plan.counters c r) 1 0)) i 0 < 2 ^ 64
        → get_or counters i 0 ≡ get_or before.counters i 0 + get_or (by_place MAX_COUNTERS (λ c. cond (is_absent_at plan.counters c r) 1 0)) i 0
    at i within fit =
        let here : get_or (by_place MAX_COUNTERS (λ c. cond (is_absent_at plan.counters c r) 1 0)) i 0 ≡ cond (is_absent_at plan.counters i r) 1 0 = get_or-map-range_with_len (λ c. cond (is_absent_at plan.counters c r) 1 0) 0 MAX_COUNTERS i i 0 (omega arith) (omega arith) in
        let count = notes.counts i in
        omega arith

-- whether a number is missing
pub none_is : (o : Option ℕ) (b : Bool) → is_some o ≡ not b → is_none o ≡ b
none_is None true h = refl
none_is None false h = cc h
none_is (Some n) true h = cc h
none_is (Some n) false h = refl

-- of the first elements and of one more
absent_before : (es : List ElementId) (r : DataRecord) (i : ℕ) → is_absent_at (take i es) i r ≡ false
absent_before [] r zero = refl
absent_before [] r (suc i) = refl
absent_before (e ∷ es) r zero = refl
absent_before (e ∷ es) r (suc i) = absent_before es r i

absent_here : (es : List ElementId) (r : DataRecord) (i : ℕ) (d : ElementId) → i < length es → is_absent_at (take (suc i) es) i r ≡ is_none (number_of (get_or es i d) r)
absent_here [] r i d inside = absurd (omega arith)
absent_here (e ∷ es) r zero d inside = refl
absent_here (e ∷ es) r (suc i) d inside = absent_here es r i d (omega arith)

absent_other : (es : List ElementId) (r : DataRecord) (i c : ℕ) → c ≢ i → is_absent_at (take (suc i) es) c r ≡ is_absent_at (take i es) c r
absent_other [] r zero c other = refl
absent_other [] r (suc i) c other = refl
absent_other (e ∷ es) r zero zero other = absurd (other refl)
absent_other (e ∷ es) r zero (suc c) other = refl
absent_other (e ∷ es) r (suc i) zero other = refl
absent_other (e ∷ es) r (suc i) (suc c) other = absent_other es r i c (λ same. other (ap (λ (n : ℕ). suc n) same))

abbrev counted : ℕ → Bool → ℕ
counted n b = min (n + cond b 1 0) (2 ^ 64 - 1)

-- one more that is there
pub there_noted : (before missing : List ℕ) (es : List ElementId) (r : DataRecord) (i : ℕ) (d : ElementId) → i < length es → is_none (number_of (get_or es i d) r) ≡ false
    → Notes before (take i es) r missing → Notes before (take (i + 1) es) r missing
there_noted before missing es r i d inside is notes = record { long = notes.long; counts = counts }
  where
    counts : (c : ℕ) → get_or missing c 0 ≡ counted (get_or before c 0) (is_absent_at (take (i + 1) es) c r)
    counts c =
        let next : is_absent_at (take (i + 1) es) c r ≡ is_absent_at (take (suc i) es) c r = ap (λ (k : ℕ). is_absent_at (take k es) c r) (add-one i) in
        let same : is_absent_at (take (suc i) es) c r ≡ is_absent_at (take i es) c r =
        elim (eqb_tells c i) [
          | inl here ↦ ap (λ (k : ℕ). is_absent_at (take (suc i) es) k r) here.1 ∙ absent_here es r i d inside ∙ is
              ∙ sym (ap (λ (k : ℕ). is_absent_at (take i es) k r) here.1 ∙ absent_before es r i)
          | inr other ↦ absent_other es r i c other.1
        ] in
        notes.counts c ∙ ap (counted (get_or before c 0)) (sym (next ∙ same))

-- one more that is missing or absent
pub absent_noted : (before missing new : List ℕ) (es : List ElementId) (r : DataRecord) (i : ℕ) (d : ElementId) → i < length es → i < length missing → is_none (number_of (get_or es i d) r) ≡ true
    → new ≡ set missing i (min (get_or missing i 0 + 1) (2 ^ 64 - 1)) → Notes before (take i es) r missing → Notes before (take (i + 1) es) r new
absent_noted before missing new es r i d inside within is noted notes = record { long = ap length noted ∙ length-set missing i _ ∙ notes.long; counts = counts }
  where
    counts : (c : ℕ) → get_or new c 0 ≡ counted (get_or before c 0) (is_absent_at (take (i + 1) es) c r)
    counts c =
        let next : is_absent_at (take (i + 1) es) c r ≡ is_absent_at (take (suc i) es) c r = ap (λ (k : ℕ). is_absent_at (take k es) c r) (add-one i) in
        let old = notes.counts c in
        elim (eqb_tells c i) [
          | inl here ↦
              let lacks : is_absent_at (take (suc i) es) c r ≡ true = ap (λ (k : ℕ). is_absent_at (take (suc i) es) k r) here.1 ∙ absent_here es r i d inside ∙ is in
              let had : is_absent_at (take i es) c r ≡ false = ap (λ (k : ℕ). is_absent_at (take i es) k r) here.1 ∙ absent_before es r i in
              let old_is : get_or missing c 0 ≡ counted (get_or before c 0) false = old ∙ ap (counted (get_or before c 0)) had in
              let there : get_or new i 0 ≡ min (get_or missing i 0 + 1) (2 ^ 64 - 1) = ap (λ (l : List ℕ). get_or l i 0) noted ∙ get_or-set_same missing i _ 0 within in
              let moved : get_or new c 0 ≡ get_or new i 0 = ap (λ (k : ℕ). get_or new k 0) here.1 in
              let from : get_or missing c 0 ≡ get_or missing i 0 = ap (λ (k : ℕ). get_or missing k 0) here.1 in
              let one : get_or new c 0 ≡ counted (get_or before c 0) true = omega arith in
              one ∙ ap (counted (get_or before c 0)) (sym (next ∙ lacks))
          | inr other ↦
              let there : get_or new c 0 ≡ get_or missing c 0 = ap (λ (l : List ℕ). get_or l c 0) noted ∙ get_or-set_other missing i c _ 0 other.1 in
              there ∙ old ∙ ap (counted (get_or before c 0)) (sym (next ∙ absent_other es r i c other.1))
        ]

-- ---- adding up to the tally

-- of two tests exactly one holds where a third does
one_each : (r : DataRecord) (ps qs both : List DataRecord) (x : Bool) (o : Option ℕ) → length ps + length qs ≡ length both
    → length (cond (x && is_none o) (r ∷ ps) ps) + length (cond (x && is_some o) (r ∷ qs) qs) ≡ length (cond x (r ∷ both) both)
one_each r ps qs both true None h = omega arith
one_each r ps qs both true (Some n) h = omega arith
one_each r ps qs both false o h = h

either : (a : DataRecord → Bool) (o : DataRecord → Option ℕ) (rs : List DataRecord)
    → length (filter (λ r. a r && is_none (o r)) rs) + length (filter (λ r. a r && is_some (o r)) rs) ≡ length (filter a rs)
either a o [] = refl
either a o (r ∷ rs) = one_each r (filter (λ q. a q && is_none (o q)) rs) (filter (λ q. a q && is_some (o q)) rs) (filter a rs) (a r) (o r) (either a o rs)

pub times_add_up : (plan : PlanValue) (rs : List DataRecord) → (missing_of plan rs).start + (missing_of plan rs).end ≡ (tally_of plan rs).untimed
unfolding missing_of how_many count_of
times_add_up plan rs = either (λ r. is_class classes.Untimed (class_of plan r)) (start_of plan.choices.times) rs

pub counters_within : (plan : PlanValue) (rs : List DataRecord) → All (λ n. n ≤ (tally_of plan rs).used) (missing_of plan rs).counters
unfolding missing_of
counters_within plan rs =
    all_map (λ n. n ≤ count_of plan rs classes.Used) (λ c. how_many (lacks_counter plan c) rs) (λ c. in_class plan classes.Used (λ r. is_absent_at plan.counters c r) rs) (range_with_len 0 MAX_COUNTERS)

-- sums of numbers by place
sum_first : (n : ℕ) (ns : List ℕ) → sum (n ∷ ns) ≡ n + sum ns
sum_first n ns = sum_by-cons (λ m. m) n ns

sum_none : (ks : List ℕ) → sum (map (λ (k : ℕ). 0) ks) ≡ 0
sum_none [] = refl
sum_none (k ∷ ks) = omega (arith, sum_first 0 (map (λ (j : ℕ). 0) ks), sum_none ks)

sum_split : (f g h : ℕ → ℕ) → ((k : ℕ) → f k ≡ g k + h k) → (ks : List ℕ) → sum (map f ks) ≡ sum (map g ks) + sum (map h ks)
sum_split f g h is [] = refl
sum_split f g h is (k ∷ ks) = omega (arith, is k, sum_split f g h is ks, sum_first (f k) (map f ks), sum_first (g k) (map g ks), sum_first (h k) (map h ks))

-- a place is none of those after it
none_behind : (n start place : ℕ) → place < start → sum (map (λ k. cond (k == place) 1 0) (range_with_len start n)) ≡ 0
none_behind zero start place before = refl
none_behind (suc n) start place before =
    let first = sum_first (cond (start == place) 1 0) (map (λ k. cond (k == place) 1 0) (range_with_len (start + 1) n)) in
    let others = none_behind n (start + 1) place (omega arith) in
    elim (eqb_tells start place) [
      | inl same ↦ absurd (omega (arith, same.1))
      | inr other ↦ let none : ◌≡◌ {A = ℕ} (cond (start == place) 1 0) 0 = ap (λ (b : Bool). cond b 1 0) other.0 in omega arith
    ]

-- and one of those that it is among
one_place : (n start place : ℕ) → start ≤ place → place < start + n → sum (map (λ k. cond (k == place) 1 0) (range_with_len start n)) ≡ 1
one_place zero start place from within = absurd (omega arith)
one_place (suc n) start place from within =
    let first = sum_first (cond (start == place) 1 0) (map (λ k. cond (k == place) 1 0) (range_with_len (start + 1) n)) in
    elim (eqb_tells start place) [
      | inl same ↦
          let one : ◌≡◌ {A = ℕ} (cond (start == place) 1 0) 1 = ap (λ (b : Bool). cond b 1 0) same.0 in
          let others = none_behind n (start + 1) place (omega (arith, same.1)) in
          omega arith
      | inr other ↦
          let none : ◌≡◌ {A = ℕ} (cond (start == place) 1 0) 0 = ap (λ (b : Bool). cond b 1 0) other.0 in
          let past : start + 1 ≤ place = omega (arith, other.1) in
          let others = one_place n (start + 1) place past (omega arith) in
          omega arith
    ]

-- a record that has a place below n where a test holds for it is counted at one of n places
one_counted : (n : ℕ) (holds : Bool) (place : Option ℕ) → (holds ≡ true → (k : ℕ) × (k < n) × (place ≡ Some k)) → sum (by_place n (λ k. cond (holds && is_place k place) 1 0)) ≡ cond holds 1 0
one_counted n false place at = sum_none (range_with_len 0 n)
one_counted n true place at =
    let here = at refl in
    ap (λ (o : Option ℕ). sum (by_place n (λ k. cond (is_place k o) 1 0))) here.2 ∙ one_place n 0 here.0 (omega arith) (omega (arith, here.1))

first_filtered : (test : DataRecord → Bool) (r : DataRecord) (rs : List DataRecord) → length (filter test (r ∷ rs)) ≡ cond (test r) 1 0 + length (filter test rs)
first_filtered test r rs = elim (test r) as (λ b. length (cond b (r ∷ filter test rs) (filter test rs)) ≡ cond b 1 0 + length (filter test rs)) [ true ↦ omega arith | false ↦ omega arith ]

counted_by_place : (n : ℕ) (test : DataRecord → Bool) (place : DataRecord → Option ℕ) → ((r : DataRecord) → test r ≡ true → (k : ℕ) × (k < n) × (place r ≡ Some k)) → (rs : List DataRecord)
    → sum (by_place n (λ k. length (filter (λ r. test r && is_place k (place r)) rs))) ≡ length (filter test rs)
counted_by_place n test place at [] = sum_none (range_with_len 0 n)
counted_by_place n test place at (r ∷ rs) =
    sum_split (λ k. length (filter (λ q. test q && is_place k (place q)) (r ∷ rs))) (λ k. cond (test r && is_place k (place r)) 1 0) (λ k. length (filter (λ q. test q && is_place k (place q)) rs))
    (λ k. first_filtered (λ q. test q && is_place k (place q)) r rs) (range_with_len 0 n)
    ∙ omega (arith, one_counted n (test r) (place r) (at r), counted_by_place n test place at rs, first_filtered test r rs)

-- ---- the first missing key

still_none : (cell : Cell) (o : Option (List Cell)) → is_none (option_map (λ (cells : List Cell). cell ∷ cells) o) ≡ true → is_none o ≡ true
still_none cell None h = refl
still_none cell (Some cells) h = h

step_within : (keys : List Key) (kinds : List Kind) (r : DataRecord) (o : Option Cell)
    → is_none (option_and_then (λ (cell : Cell). option_map (λ (cells : List Cell). cell ∷ cells) (cells_of keys kinds r)) o) ≡ true
    → (is_none (cells_of keys kinds r) ≡ true → (k : ℕ) × (k < length keys) × (first_without keys kinds r ≡ Some k))
    → (k : ℕ) × (k < suc (length keys)) × (cond (is_none o) (Some 0) (option_map (λ (j : ℕ). suc j) (first_without keys kinds r)) ≡ Some k)
step_within keys kinds r None h others = (0, omega arith, refl)
step_within keys kinds r (Some cell) h others =
    let at = others (still_none cell (cells_of keys kinds r) h) in
    let inside : at.0 < length keys = at.1 in
    (suc at.0, omega arith, ap (option_map (λ (j : ℕ). suc j)) at.2)

-- a record that has no key lacks a first one
first_within : (keys : List Key) (kinds : List Kind) (r : DataRecord) → is_none (cells_of keys kinds r) ≡ true → (k : ℕ) × (k < length keys) × (first_without keys kinds r ≡ Some k)
first_within [] kinds r h = cc h
first_within (key ∷ keys) [] r h = cc h
first_within (key ∷ keys) (kind ∷ kinds) r h = step_within keys kinds r (cell_of key kind r) h (first_within keys kinds r)

by_test : (a b c : Bool) → is_class classes.Unkeyed (cond a classes.Backward (cond b classes.Unkeyed (cond c classes.TooLong classes.Used))) ≡ true → b ≡ true
by_test a true c h = refl
by_test true false c h = h
by_test false false true h = h
by_test false false false h = h

of_flow : (plan : PlanValue) (r : DataRecord) (s e : Option ℕ) → is_class classes.Unkeyed (flow_class plan r s e) ≡ true → is_none (key_of plan r) ≡ true
of_flow plan r None e h = cc h
of_flow plan r (Some s) None h = cc h
of_flow plan r (Some s) (Some e) h = by_test (nat_lt e s) (is_none (key_of plan r)) (is_too_long plan s e) h

of_scope : (b : Bool) (class : Class) (x : Bool) → (is_class classes.Unkeyed class ≡ true → x ≡ true) → is_class classes.Unkeyed (cond b classes.Options class) ≡ true → x ≡ true
of_scope true class x is h = cc h
of_scope false class x is h = is h

keyless : (plan : PlanValue) (r : DataRecord) → is_class classes.Unkeyed (class_of plan r) ≡ true → is_none (key_of plan r) ≡ true
keyless plan r h = of_scope (nat_lt 0 r.scope) (flow_class plan r (start_of plan.choices.times r) (end_of plan.choices.times r)) (is_none (key_of plan r)) (of_flow plan r (start_of plan.choices.times r) (end_of plan.choices.times r)) h

pub keys_add_up : (plan : PlanValue) (rs : List DataRecord) → IsPlan plan → sum (missing_of plan rs).keys ≡ (tally_of plan rs).unkeyed
unfolding missing_of how_many count_of
keys_add_up plan rs is =
    counted_by_place MAX_KEYS (λ r. is_class classes.Unkeyed (class_of plan r)) (λ r. first_without plan.keys plan.kinds r)
    (λ r unkeyed.
    let at = first_within plan.keys plan.kinds r (keyless plan r unkeyed) in
    let few : length plan.keys ≤ 8 = leb-true (length plan.keys) 8 is.few in
    let inside : at.0 < length plan.keys = at.1 in
    (at.0, omega arith, at.2)) rs
