-- The first rows of tables: what they have at a place, which of them is first, and which has most.
use Rattle.std.proofs.Common.{◌≡◌, ◌⊎◌, ℕ, zero, suc, ◌+◌, ◌^◌, ◌<◌, ◌≤◌, Bool, true, false, List, [], ◌∷◌, ◌++◌, length, map, take, drop, set, All, Option, None, Some, refl, sym, ap, ◌∙◌, subst, inl, inr, arith, add-one}
use Rattle.std.specs.Prelude.{if◌then◌else◌, slice_index_or}
use Rattle.std.specs.Ordering.{is_eq, is_lt, ordering_reverse}
use Rattle.std.specs.declared.cmp.Ordering.{Ordering}
use Rattle.std.specs.declared.cmp.Ordering.TheVariants.{Less, Equal, Greater}
use Rattle.std.proofs.Math.Seq.{drop-cons, take-append_seam}
use Rattle.std.proofs.lemmas.List.Elements.{All-from_get_or}
use Rattle.std.proofs.lemmas.Bool.{cases_lt}
use Rattle.std.proofs.lemmas.List.{take_all}
use Rattle.std.proofs.lemmas.List.Sums.{sum_by_more, sum_by_more_le}
use Rattle.flow_table.specs.AddedUp.{place}
use Rattle.flow_table.specs.SameTables.{RowValue}
use Rattle.flow_table.specs.Tables.{place_cmp}
use Rattle.largest_sessions.specs.LeftOut.{Place}
use Rattle.largest_sessions.specs.SessionNumbers.{number_of}
use Rattle.largest_sessions.specs.Walks.{Rows, StartsWith, StartsAt, IsBefore, IsNotBefore, StartsFirst, IsFirstOf, HasMost, first_number, first_numbers, after_place}
use Rattle.largest_sessions.proofs.PlaceOrder.{places_total}

-- ---- one table

pub starts_there : (rows rest : Rows) (i : ℕ) (row : RowValue) → i < length rows → ((d : RowValue) → row ≡ slice_index_or rows i d) → drop i rows ≡ rest → StartsWith row rest
starts_there rows rest i row inside same are = record {
  others = drop (suc i) rows;
  are = sym are ∙ drop-cons rows i row inside ∙ ap (λ (r : RowValue). r ∷ drop (suc i) rows) (sym (same row));
}

pub drop_one : (rows : Rows) (i : ℕ) → drop (i + 1) rows ≡ drop 1 (drop i rows)
drop_one rows i = subst (λ (k : ℕ). drop k rows ≡ drop 1 (drop i rows)) (sym (add-one i)) (by rows i)
  where
    by : (rows : Rows) (i : ℕ) → drop (suc i) rows ≡ drop 1 (drop i rows)
    by [] zero = refl
    by [] (suc i) = refl
    by (row ∷ rows) zero = refl
    by (row ∷ rows) (suc i) = by rows i

pub number_none : (rows : Rows) (p : Place) (n : ℕ) → rows ≡ [] → first_number rows p n ≡ 0
number_none rows p n none = ap (λ (r : Rows). first_number r p n) none

pub number_there : (row : RowValue) (rows : Rows) (p : Place) (n : ℕ) → StartsWith row rows → is_eq (place_cmp p (place row)) ≡ true → first_number rows p n ≡ number_of row n
number_there row rows p n starts here = ap (λ (r : Rows). first_number r p n) starts.are ∙ ap (λ (b : Bool). if b then number_of row n else 0) here

pub number_elsewhere : (row : RowValue) (rows : Rows) (p : Place) (n : ℕ) → StartsWith row rows → is_eq (place_cmp p (place row)) ≡ false → first_number rows p n ≡ 0
number_elsewhere row rows p n starts other = ap (λ (r : Rows). first_number r p n) starts.are ∙ ap (λ (b : Bool). if b then number_of row n else 0) other

pub after_no_row : (rows : Rows) (p : Place) → rows ≡ [] → after_place p rows ≡ rows
after_no_row rows p none = subst (λ (r : Rows). after_place p r ≡ r) (sym none) refl

pub after_there : (row : RowValue) (rows : Rows) (p : Place) → StartsWith row rows → is_eq (place_cmp p (place row)) ≡ true → after_place p rows ≡ drop 1 rows
after_there row rows p starts here =
    subst (λ (r : Rows). after_place p r ≡ drop 1 r) (sym starts.are) (ap (λ (b : Bool). if b then starts.others else row ∷ starts.others) here)

pub after_elsewhere : (row : RowValue) (rows : Rows) (p : Place) → StartsWith row rows → is_eq (place_cmp p (place row)) ≡ false → after_place p rows ≡ rows
after_elsewhere row rows p starts other =
    subst (λ (r : Rows). after_place p r ≡ r) (sym starts.are) (ap (λ (b : Bool). if b then starts.others else row ∷ starts.others) other)

less_from : (o : Ordering) → is_lt o ≡ true → o ≡ Less
less_from Less h = refl
less_from Equal h = cc
less_from Greater h = cc

pub before_first : (row : RowValue) (rows : Rows) (p : Place) → StartsWith row rows → is_lt (place_cmp p (place row)) ≡ true → IsBefore p rows
before_first row rows p starts less = subst (IsBefore p) (sym starts.are) (less_from (place_cmp p (place row)) less)

pub not_before_first : (row : RowValue) (rows : Rows) (p : Place) → StartsWith row rows → is_lt (place_cmp p (place row)) ≡ false → IsBefore p rows → ⊥
not_before_first row rows p starts other before =
    let less : place_cmp p (place row) ≡ Less = subst (IsBefore p) starts.are before in
    let so : is_lt (place_cmp p (place row)) ≡ true = ap is_lt less in
    cc

pub before_none : (rows : Rows) (p : Place) → rows ≡ [] → IsBefore p rows → ⊥
before_none rows p none before = subst (IsBefore p) none before

-- ---- which is first

-- at an index below one more
below_or_at : (k n : ℕ) → k < n + 1 → (k < n) ⊎ (k ≡ n)
below_or_at k n h = elim (cases_lt k n) [ inl less ↦ inl less | inr more ↦ inr (omega arith) ]

at_rows : (all : List Rows) (P : Rows → Type 0) (n j : ℕ) → j ≡ n → P (slice_index_or all n []) → P (slice_index_or all j [])
at_rows all P n j same h = subst (λ (k : ℕ). P (slice_index_or all k [])) (sym same) h

-- one index more
more_at : (all : List Rows) (P : Rows → Type 0) (n : ℕ) → ((j : ℕ) → j < n → P (slice_index_or all j [])) → P (slice_index_or all n []) → (j : ℕ) → j < n + 1 → P (slice_index_or all j [])
more_at all P n before here j less = elim (below_or_at j n less) [
  | inl earlier ↦ before j earlier
  | inr same ↦ at_rows all P n j same here
]

none_not_before : (p : Place) (rows : Rows) → rows ≡ [] → IsNotBefore p rows
none_not_before p rows none = subst (IsNotBefore p) (sym none) tt

-- the same tables, and one that has no row
pub first_stays : (all : List Rows) (n : ℕ) (first : Option ℕ) → IsFirstOf all n first → slice_index_or all n [] ≡ [] → IsFirstOf all (n + 1) first
first_stays all n None before none = more_at all (λ rows. rows ≡ []) n before none
first_stays all n (Some i) before none = record {
  place = before.place;
  inside = omega (arith, before.inside);
  starts = before.starts;
  first = more_at all (IsNotBefore before.place) n before.first (none_not_before before.place (slice_index_or all n []) none);
}

pub own_start : (row : RowValue) (rows : Rows) → StartsWith row rows → StartsAt (place row) rows
own_start row rows starts = subst (StartsAt (place row)) (sym starts.are) refl

not_itself : (p : Place) → place_cmp p p ≡ Less → ⊥
not_itself p less =
    let back = places_total.antisymm p p in
    apart (place_cmp p p) less back
  where
    apart : (o : Ordering) → o ≡ Less → o ≡ ordering_reverse o → ⊥
    apart o less back = let e = subst (λ (x : Ordering). x ≡ ordering_reverse x) less back in cc

own_not_before : (row : RowValue) (rows : Rows) → StartsWith row rows → IsNotBefore (place row) rows
own_not_before row rows starts = subst (IsNotBefore (place row)) (sym starts.are) (not_itself (place row))

-- one that has a row, after those that have none
pub first_alone : (all : List Rows) (n : ℕ) (row : RowValue) → IsFirstOf all n None → StartsWith row (slice_index_or all n []) → IsFirstOf all (n + 1) (Some n)
first_alone all n row before starts = record {
  place = place row;
  inside = omega arith;
  starts = own_start row (slice_index_or all n []) starts;
  first = more_at all (IsNotBefore (place row)) n (λ j less. none_not_before (place row) (slice_index_or all j []) (before j less)) (own_not_before row (slice_index_or all n []) starts);
}

-- a row before the first
before_then : (p q : Place) (rows : Rows) → place_cmp p q ≡ Less → IsNotBefore q rows → IsNotBefore p rows
before_then p q [] less h = tt
before_then p q (row ∷ rows) less h = λ earlier. h (places_total.trans (place row) p q earlier less)

at_start : (p q : Place) (rows : Rows) → IsBefore p rows → StartsAt q rows → place_cmp p q ≡ Less
at_start p q [] before starts = absurd before
at_start p q (row ∷ rows) before starts = subst (λ (r : Place). place_cmp p r ≡ Less) starts before

-- one that has a row before those
pub first_changes : (all : List Rows) (n i : ℕ) (row : RowValue) → IsFirstOf all n (Some i) → StartsWith row (slice_index_or all n []) → IsBefore (place row) (slice_index_or all i []) → IsFirstOf all (n + 1) (Some n)
first_changes all n i row before starts less = record {
  place = place row;
  inside = omega arith;
  starts = own_start row (slice_index_or all n []) starts;
  first = more_at all (IsNotBefore (place row)) n
      (λ j earlier. before_then (place row) before.place (slice_index_or all j []) (at_start (place row) before.place (slice_index_or all i []) less before.starts) (before.first j earlier))
      (own_not_before row (slice_index_or all n []) starts);
}

starts_before : (p : Place) (rows : Rows) (q : Place) → StartsAt q rows → place_cmp p q ≡ Less → IsBefore p rows
starts_before p [] q starts less = absurd starts
starts_before p (row ∷ rows) q starts less = subst (λ (r : Place). place_cmp p r ≡ Less) (sym starts) less

-- one that has a row, but none before those
pub first_kept : (all : List Rows) (n i : ℕ) (row : RowValue) → IsFirstOf all n (Some i) → StartsWith row (slice_index_or all n []) → (IsBefore (place row) (slice_index_or all i []) → ⊥) → IsFirstOf all (n + 1) (Some i)
first_kept all n i row before starts other = record {
  place = before.place;
  inside = omega (arith, before.inside);
  starts = before.starts;
  first = more_at all (IsNotBefore before.place) n before.first
      (subst (IsNotBefore before.place) (sym starts.are) (λ less. other (starts_before (place row) (slice_index_or all i []) before.place before.starts less)));
}

same_start : (row : RowValue) (rows : Rows) (p : Place) → StartsWith row rows → StartsAt p rows → place row ≡ p
same_start row rows p starts at = subst (StartsAt p) starts.are at

pub none_before_first : (all : List Rows) (i : ℕ) (row : RowValue) → StartsFirst all (length all) i → StartsWith row (slice_index_or all i []) → All (IsNotBefore (place row)) all
none_before_first all i row first starts =
    subst (λ (p : Place). All (IsNotBefore p) all) (sym (same_start row (slice_index_or all i []) first.place starts first.starts)) (All-from_get_or (IsNotBefore first.place) all [] first.first)

pub no_rows : (all : List Rows) → IsFirstOf all (length all) None → All (λ rows. rows ≡ []) all
no_rows all none = All-from_get_or (λ rows. rows ≡ []) all [] none

-- ---- which has most

pub most_alone : (all : List Rows) (p : Place) (n : ℕ) → HasMost all 1 p n 0
most_alone all p n = record {
  inside = omega arith;
  most = λ j less. at_rows all (λ rows. first_number rows p n ≤ first_number (slice_index_or all 0 []) p n) 0 j (omega arith) (omega arith);
  first = λ j less. absurd (omega arith);
}

pub most_changes : (all : List Rows) (count : ℕ) (p : Place) (n i : ℕ) → HasMost all count p n i → first_number (slice_index_or all i []) p n < first_number (slice_index_or all count []) p n → HasMost all (count + 1) p n count
most_changes all count p n i before more = record {
  inside = omega arith;
  most = more_at all (λ rows. first_number rows p n ≤ first_number (slice_index_or all count []) p n) count (λ j less. omega (arith, before.most j less)) (omega arith);
  first = λ j less. omega (arith, before.most j less);
}

pub most_stays : (all : List Rows) (count : ℕ) (p : Place) (n i : ℕ) → HasMost all count p n i → first_number (slice_index_or all count []) p n ≤ first_number (slice_index_or all i []) p n → HasMost all (count + 1) p n i
most_stays all count p n i before less = record {
  inside = omega (arith, before.inside);
  most = more_at all (λ rows. first_number rows p n ≤ first_number (slice_index_or all i []) p n) count before.most less;
  first = before.first;
}

-- ---- what they have together

pub one_more : (all : List Rows) (p : Place) (n i : ℕ) → i < length all → first_numbers (take (i + 1) all) p n ≡ first_numbers (take i all) p n + first_number (slice_index_or all i []) p n
one_more all p n i inside = sum_by_more (λ (rows : Rows). first_number rows p n) all i [] inside

-- with that of one more table it is too large
pub large_with : (all : List Rows) (p : Place) (n i total number : ℕ) (x : Rows) → i < length all → x ≡ slice_index_or all i x → total ≡ first_numbers (take i all) p n → number ≡ first_number x p n
    → (total + number < 2 ^ 64 → ⊥) → 2 ^ 64 ≤ first_numbers all p n
large_with all p n i total number x inside is so_far there large =
    let here : first_number x p n ≡ first_number (slice_index_or all i x) p n = ap (λ (rows : Rows). first_number rows p n) is in
    let within = sum_by_more_le (λ (rows : Rows). first_number rows p n) all i x inside in
    not_below (total + number) (first_numbers all p n) (2 ^ 64) (omega (arith, so_far, there, here, within)) large
  where
    not_below : (a b limit : ℕ) → a ≤ b → (a < limit → ⊥) → limit ≤ b
    not_below a b limit h large = elim (cases_lt a limit) [ inl less ↦ absurd (large less) | inr more ↦ omega arith ]

-- that of all tables isn't
pub all_small : (all : List Rows) (p : Place) (n i total : ℕ) → length all ≤ i → total ≡ first_numbers (take i all) p n → total < 2 ^ 64 → first_numbers all p n < 2 ^ 64
all_small all p n i total enough so_far small =
    subst (λ (a : ℕ). a < 2 ^ 64) (so_far ∙ ap (λ (rest : List Rows). first_numbers rest p n) (take_all i all enough)) small

-- ---- on after a place

passed_more : (f : Rows → Rows) (all : List Rows) (i : ℕ) (d : Rows) → i < length all
    → set (map f (take i all) ++ drop i all) i (f (slice_index_or (map f (take i all) ++ drop i all) i d)) ≡ map f (take (suc i) all) ++ drop (suc i) all
passed_more f [] i d inside = absurd (omega arith)
passed_more f (rows ∷ others) zero d inside = refl
passed_more f (rows ∷ others) (suc i) d inside = ap (λ (rest : List Rows). f rows ∷ rest) (passed_more f others i d (omega arith))

pub passed_on : (f : Rows → Rows) (all items : List Rows) (i : ℕ) (x y : Rows) → items ≡ map f (take i all) ++ drop i all → i < length all → y ≡ f (slice_index_or items i x)
    → set items i y ≡ map f (take (i + 1) all) ++ drop (i + 1) all
passed_on f all items i x y so_far inside made =
    let there : slice_index_or items i x ≡ slice_index_or (map f (take i all) ++ drop i all) i x = ap (λ (its : List Rows). slice_index_or its i x) so_far in
    let on = ap (λ (its : List Rows). set its i y) so_far ∙ ap (λ (z : Rows). set (map f (take i all) ++ drop i all) i z) (made ∙ ap f there) ∙ passed_more f all i x inside in
    subst (λ (k : ℕ). set items i y ≡ map f (take k all) ++ drop k all) (sym (add-one i)) on

-- what is written back to a vector of as many
pub written_back : (new items : List Rows) (n : ℕ) → n ≡ length new → take n (new ++ drop (length new) items) ≡ new
written_back new items n same = ap (λ (k : ℕ). take k (new ++ drop (length new) items)) same ∙ take-append_seam new (drop (length new) items)

-- a table at an index, whatever is there behind the last
pub at_index : (all : List Rows) (i : ℕ) (x : Rows) → i < length all → x ≡ slice_index_or all i x → slice_index_or all i [] ≡ x
at_index [] i x inside is = absurd (omega arith)
at_index (rows ∷ others) zero x inside is = sym is
at_index (rows ∷ others) (suc i) x inside is = at_index others i x (omega arith) is

pub all_passed : (f : Rows → Rows) (all : List Rows) → map f (take (length all) all) ++ drop (length all) all ≡ map f all
all_passed f [] = refl
all_passed f (rows ∷ others) = ap (λ (rest : List Rows). f rows ∷ rest) (all_passed f others)
