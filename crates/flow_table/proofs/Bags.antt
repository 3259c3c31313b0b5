-- Sums and numbers of flows over lists of records, in whatever order.
use Rattle.std.proofs.Common.{◌≡◌, ℕ, ◌+◌, ◌^◌, ◌≤◌, inl, inr, Bool, true, false, cond, List, [], ◌∷◌, ◌++◌, length, length-append, map, sum_by, filter, refl, sym, ap, ◌∙◌, arith}
use Rattle.std.specs.List.{range_with_len}
use Rattle.std.proofs.lemmas.List.Sums.{sum_by-append, sum_by-cons, length-filter}
use Rattle.std.proofs.lemmas.List.Elements.{filter-append, All-weaker}
use Rattle.std.proofs.lemmas.List.Sorted.{sum_by-IsPermutation}
use Rattle.std.specs.List.Sorted.{IsPermutation}
use Rattle.ipfix_wire.specs.declared.specifier.ElementId.{ElementId}
use Rattle.ipfix_elements.specs.declared.cell.Cell.{Cell}
use Rattle.ipfix_message.specs.declared.record.DataRecord.{DataRecord}
use Rattle.flow_table.specs.declared.class.Class.{Class}
use Rattle.flow_table.specs.declared.class.Class.TheVariants.{Options, Untimed, Backward, Unkeyed, TooLong, Used}
use Rattle.flow_table.specs.declared.table.Row.{Row}
use Rattle.flow_table.specs.declared.table.Table.{Table}
use Rattle.flow_table.specs.Bags.{IsSameBag, IsInterleaving, neither, from_first, from_second}
use Rattle.flow_table.specs.Missing.{how_many, lacks_start, lacks_end, lacks_key, lacks_counter, missing_of}
use Rattle.flow_table.specs.declared.plan.TheConstants.{MAX_KEYS, MAX_COUNTERS}
use Rattle.flow_table.specs.Plans.{PlanValue}
use Rattle.flow_table.specs.Reading.{is_class, class_of}
use Rattle.flow_table.specs.Tables.{count_of, tally_of, contributes, share_of, sum_at, flows_at, AreTooMany, IsTooLarge, IsTooLargeAt, IsRow, IsTable}
use Rattle.flow_table.proofs.Lacking.{same_missing}
use Rattle.flow_table.proofs.Sums.{same_map}

-- ---- what is the same bag

pub permuted : (rs qs : List DataRecord) → IsPermutation rs qs → IsSameBag rs qs
permuted rs qs h weight = sym (sum_by-IsPermutation weight rs qs h)

weight_of-interleaving : {rs qs all : List DataRecord} → IsInterleaving rs qs all → (weight : DataRecord → ℕ) → sum_by weight all ≡ sum_by weight rs + sum_by weight qs
weight_of-interleaving neither weight = refl
weight_of-interleaving (from_first {r} {rs} {qs} {all} h) weight =
    omega (arith, weight_of-interleaving h weight, sum_by-cons weight r rs, sum_by-cons weight r all)
weight_of-interleaving (from_second {r} {rs} {qs} {all} h) weight =
    omega (arith, weight_of-interleaving h weight, sum_by-cons weight r qs, sum_by-cons weight r all)

pub interleaved : (rs qs all : List DataRecord) → IsInterleaving rs qs all → IsSameBag all (rs ++ qs)
interleaved rs qs all h weight = weight_of-interleaving h weight ∙ sym (sum_by-append weight rs qs)

pub turned : (rs qs : List DataRecord) → IsSameBag (rs ++ qs) (qs ++ rs)
turned rs qs weight = omega (arith, sum_by-append weight rs qs, sum_by-append weight qs rs)

pub bags-append : (rs qs more others : List DataRecord) → IsSameBag rs qs → IsSameBag more others → IsSameBag (rs ++ more) (qs ++ others)
bags-append rs qs more others h k weight = omega (arith, h weight, k weight, sum_by-append weight rs more, sum_by-append weight qs others)

-- ---- filters as weights

-- one more
first_weighed : {X : Type 0} (p : X → Bool) (f : X → ℕ) (x : X) (xs : List X) → sum_by f (filter p (x ∷ xs)) ≡ cond (p x) (f x) 0 + sum_by f (filter p xs)
first_weighed p f x xs =
    elim (p x) as (λ b. sum_by f (cond b (x ∷ filter p xs) (filter p xs)) ≡ cond b (f x) 0 + sum_by f (filter p xs))
    [ true ↦ sum_by-cons f x (filter p xs) | false ↦ omega arith ]

weighed : {X : Type 0} (p : X → Bool) (f : X → ℕ) (xs : List X) → sum_by f (filter p xs) ≡ sum_by (λ x. cond (p x) (f x) 0) xs
weighed p f [] = refl
weighed p f (x ∷ xs) =
    first_weighed p f x xs ∙ ap (λ (n : ℕ). cond (p x) (f x) 0 + n) (weighed p f xs) ∙ sym (sum_by-cons (λ y. cond (p y) (f y) 0) x xs)

same_sum : (rs qs : List DataRecord) → IsSameBag rs qs → (p : DataRecord → Bool) (f : DataRecord → ℕ) → sum_by f (filter p rs) ≡ sum_by f (filter p qs)
same_sum rs qs h p f = weighed p f rs ∙ h (λ r. cond (p r) (f r) 0) ∙ sym (weighed p f qs)

same_length : (rs qs : List DataRecord) → IsSameBag rs qs → (p : DataRecord → Bool) → length (filter p rs) ≡ length (filter p qs)
same_length rs qs h p = length-filter p rs ∙ h (λ r. cond (p r) 1 0) ∙ sym (length-filter p qs)

-- ---- sums, flows and counts by class

sum_at-bag : (plan : PlanValue) (rs qs : List DataRecord) → IsSameBag rs qs → (k : ℕ) (key : List Cell) (c : ElementId) → sum_at plan rs k key c ≡ sum_at plan qs k key c
unfolding sum_at
sum_at-bag plan rs qs h k key c = same_sum rs qs h (contributes plan k key) (share_of plan k c)

flows_at-bag : (plan : PlanValue) (rs qs : List DataRecord) → IsSameBag rs qs → (k : ℕ) (key : List Cell) → flows_at plan rs k key ≡ flows_at plan qs k key
unfolding flows_at
flows_at-bag plan rs qs h k key = same_length rs qs h (contributes plan k key)

count_of-bag : (plan : PlanValue) (rs qs : List DataRecord) → IsSameBag rs qs → (class : Class) → count_of plan rs class ≡ count_of plan qs class
unfolding count_of
count_of-bag plan rs qs h class = same_length rs qs h (λ r. is_class class (class_of plan r))

sum_at-more : (plan : PlanValue) (rs qs : List DataRecord) (k : ℕ) (key : List Cell) (c : ElementId) → sum_at plan rs k key c ≤ sum_at plan (rs ++ qs) k key c
unfolding sum_at
sum_at-more plan rs qs k key c =
    let p = contributes plan k key in
    let f = share_of plan k c in
    rw (filter-append p rs qs, sum_by-append f (filter p rs) (filter p qs)) (omega arith)

count-more : (p : DataRecord → Bool) (rs qs : List DataRecord) → length (filter p rs) ≤ length (filter p (rs ++ qs))
count-more p rs qs = simp (filter-append, length-append) (omega arith)

flows_at-more : (plan : PlanValue) (rs qs : List DataRecord) (k : ℕ) (key : List Cell) → flows_at plan rs k key ≤ flows_at plan (rs ++ qs) k key
unfolding flows_at
flows_at-more plan rs qs k key = count-more (contributes plan k key) rs qs

count_of-more : (plan : PlanValue) (rs qs : List DataRecord) (class : Class) → count_of plan rs class ≤ count_of plan (rs ++ qs) class
unfolding count_of
count_of-more plan rs qs class = count-more (λ r. is_class class (class_of plan r)) rs qs

-- ---- too large

too_large-grows : (plan : PlanValue) (rs qs : List DataRecord) → ((k : ℕ) (key : List Cell) (c : ElementId) → sum_at plan rs k key c ≤ sum_at plan qs k key c) → ((k : ℕ) (key : List Cell) → flows_at plan rs k key ≤ flows_at plan qs k key) → ((class : Class) → count_of plan rs class ≤ count_of plan qs class) → IsTooLarge plan rs → IsTooLarge plan qs
too_large-grows plan rs qs sums flows counts (inl large) =
    let more = sums large.0 large.1 large.2 in
    inl (large.0, large.1, large.2, large.3, omega (arith, more, large.4))
too_large-grows plan rs qs sums flows counts (inr (inl large)) =
    let more = flows large.0 large.1 in
    inr (inl (large.0, large.1, omega (arith, more, large.2)))
too_large-grows plan rs qs sums flows counts (inr (inr large)) =
    let more = counts large.0 in
    inr (inr (large.0, omega (arith, more, large.1)))

≤-same : (m n : ℕ) → m ≡ n → m ≤ n
≤-same m n h = omega arith

pub too_large_bag : (plan : PlanValue) (rs qs : List DataRecord) → IsSameBag rs qs → IsTooLarge plan rs → IsTooLarge plan qs
too_large_bag plan rs qs h =
    too_large-grows plan rs qs
    (λ k key c. ≤-same _ _ (sum_at-bag plan rs qs h k key c))
    (λ k key. ≤-same _ _ (flows_at-bag plan rs qs h k key))
    (λ class. ≤-same _ _ (count_of-bag plan rs qs h class))

pub large_place-bag : (plan : PlanValue) (rs qs : List DataRecord) → IsSameBag rs qs → (k : ℕ) (key : List Cell) → IsTooLargeAt plan rs k key → IsTooLargeAt plan qs k key
large_place-bag plan rs qs h k key (inl large) =
    let big : 2 ^ 64 ≤ sum_at plan rs k key large.0 = large.2 in
    inl (large.0, large.1, omega (arith, sum_at-bag plan rs qs h k key large.0))
large_place-bag plan rs qs h k key (inr large) = inr (omega (arith, flows_at-bag plan rs qs h k key))

pub too_many-bag : (plan : PlanValue) (rs qs : List DataRecord) → IsSameBag rs qs → AreTooMany plan rs → AreTooMany plan qs
too_many-bag plan rs qs h many =
    let big : 2 ^ 64 ≤ count_of plan rs many.0 = many.1 in
    (many.0, omega (arith, count_of-bag plan rs qs h many.0))

pub too_large_more : (plan : PlanValue) (rs qs : List DataRecord) → IsTooLarge plan rs → IsTooLarge plan (rs ++ qs)
too_large_more plan rs qs = too_large-grows plan rs (rs ++ qs) (sum_at-more plan rs qs) (flows_at-more plan rs qs) (count_of-more plan rs qs)

-- ---- tables

sums-bag : (plan : PlanValue) (rs qs : List DataRecord) → IsSameBag rs qs → (k : ℕ) (key : List Cell) (cs : List ElementId) → map (sum_at plan rs k key) cs ≡ map (sum_at plan qs k key) cs
sums-bag plan rs qs h k key [] = refl
sums-bag plan rs qs h k key (c ∷ cs) =
    let first = sum_at-bag plan rs qs h k key c in
    let others = sums-bag plan rs qs h k key cs in
    cc

row-bag : (plan : PlanValue) (rs qs : List DataRecord) → IsSameBag rs qs → (row : Row) → IsRow plan rs row → IsRow plan qs row
row-bag plan rs qs h row is_row =
    let flows = flows_at-bag plan rs qs h row.interval row.key.items in
    record {
      some = omega (arith, is_row.some, flows);
      sums = is_row.sums ∙ sums-bag plan rs qs h row.interval row.key.items plan.counters;
      flows = is_row.flows ∙ flows;
    }

pub tally-bag : (plan : PlanValue) (rs qs : List DataRecord) → IsSameBag rs qs → tally_of plan rs ≡ tally_of plan qs
tally-bag plan rs qs h =
    let options = count_of-bag plan rs qs h Options in
    let untimed = count_of-bag plan rs qs h Untimed in
    let backward = count_of-bag plan rs qs h Backward in
    let unkeyed = count_of-bag plan rs qs h Unkeyed in
    let too_long = count_of-bag plan rs qs h TooLong in
    let used = count_of-bag plan rs qs h Used in
    cc

how_many-bag : (rs qs : List DataRecord) → IsSameBag rs qs → (test : DataRecord → Bool) → how_many test rs ≡ how_many test qs
unfolding how_many
how_many-bag rs qs h test = same_length rs qs h test

missing-bag : (plan : PlanValue) (rs qs : List DataRecord) → IsSameBag rs qs → missing_of plan rs ≡ missing_of plan qs
unfolding missing_of
missing-bag plan rs qs h =
    same_missing _ _ _ _ _ _ _ _ (how_many-bag rs qs h (lacks_start plan)) (how_many-bag rs qs h (lacks_end plan))
    (same_map (λ k. how_many (lacks_key plan k) rs) (λ k. how_many (lacks_key plan k) qs) (λ k. how_many-bag rs qs h (lacks_key plan k)) (range_with_len 0 MAX_KEYS))
    (same_map (λ c. how_many (lacks_counter plan c) rs) (λ c. how_many (lacks_counter plan c) qs) (λ c. how_many-bag rs qs h (lacks_counter plan c)) (range_with_len 0 MAX_COUNTERS))

pub table_bag : (plan : PlanValue) (rs qs : List DataRecord) (table : Table) → IsSameBag rs qs → IsTable plan rs table → IsTable plan qs table
table_bag plan rs qs table h is_table =
    record {
      ascending = is_table.ascending;
      rows = All-weaker (IsRow plan rs) (IsRow plan qs) (row-bag plan rs qs h) table.rows.items is_table.rows;
      complete = λ k key some. is_table.complete k key (omega (arith, some, flows_at-bag plan rs qs h k key));
      tally = is_table.tally ∙ tally-bag plan rs qs h;
      missing = is_table.missing ∙ missing-bag plan rs qs h;
    }
