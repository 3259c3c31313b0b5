-- Numbers that keys are packed into are in the order of the keys.
use Rattle.std.proofs.Common.{◌≡◌, ℕ, ◌+◌, ◌-◌, ◌*◌, ◌/◌, ◌%◌, ◌<◌, ◌≤◌, false, List, [], ◌∷◌, ◌++◌, length, get_or, drop, refl, sym, ap, ◌∙◌, subst, arith, inl, inr}
use Rattle.std.specs.List.{All}
use Rattle.std.specs.List.Sorted.{IsNonDecreasing, IsPermutation}
use Rattle.std.specs.Ordering.{is_lt, nat_cmp, ordering_then}
use Rattle.std.specs.Cmp.{nat_cmp_is}
use Rattle.std.specs.declared.cmp.Ordering.{Ordering}
use Rattle.std.specs.declared.cmp.Ordering.TheVariants.{Less, Equal, Greater}
use Rattle.std.proofs.Math.Nat.{mul-le-mul_right}
use Rattle.std.proofs.lemmas.List.{drop_all, drop_more, get_or-map, get_or_append_left, get_or_default, get_or_push, length-append, length-map, same_lists}
use Rattle.std.proofs.lemmas.List.Elements.{All-from_get_or, All-get_or}
use Rattle.std.proofs.lemmas.List.Sorted.{All-permutation, IsPermutation-map, sum_by-IsPermutation}
use Rattle.flow_rows.proofs.Additive.{folded-sum, part_adds}
use Rattle.flow_rows.proofs.Counting.{folded_run}
use Rattle.flow_rows.proofs.Found.{either}
use Rattle.flow_rows.proofs.Rising.{rises_from_sort}
use Rattle.flow_rows.specs.Rows.{Row, Counted, IsRun, Small, part, row, total_at, words_cmp}
use Rattle.flow_rows.specs.Folded.{Rises, folded}
use Rattle.flow_rows.specs.Packed.{ArePacked, IsBetween, IsOrder, IsPacked, IsWithin, digit_onto, high, in_order, low, packed_onto, row_of, word_onto}

-- ---- one word on

pub packed_more : (n : ℕ) (ls ms ws : List ℕ) (i : ℕ) → i < length ls → i < length ms → i < length ws → packed_onto n (drop i ls) (drop i ms) (drop i ws) ≡ packed_onto (word_onto n (get_or ls i 0) (get_or ms i 0) (get_or ws i 0)) (drop (i + 1) ls) (drop (i + 1) ms) (drop (i + 1) ws)
packed_more n ls ms ws i p q r = rw (drop_more ls i 0 p, drop_more ms i 0 q, drop_more ws i 0 r) refl

pub within_more : (ls ms ws : List ℕ) (i : ℕ) → i < length ls → i < length ms → i < length ws → IsBetween (get_or ls i 0) (get_or ms i 0) (get_or ws i 0) → IsWithin (drop (i + 1) ls) (drop (i + 1) ms) (drop (i + 1) ws) → IsWithin (drop i ls) (drop i ms) (drop i ws)
within_more ls ms ws i p q r b h = rw (drop_more ls i 0 p, drop_more ms i 0 q, drop_more ws i 0 r) (b, h)

-- no word is left
pub packed_all : (n : ℕ) (ls ss ws : List ℕ) (i : ℕ) → length ls ≤ i → packed_onto n (drop i ls) (drop i ss) (drop i ws) ≡ n
packed_all n ls ss ws i p = rw (drop_all i ls p) refl

pub within_all : (ls ss ws : List ℕ) (i : ℕ) → length ls ≤ i → length ss ≤ i → length ws ≤ i → IsWithin (drop i ls) (drop i ss) (drop i ws)
within_all ls ss ws i p q r = rw (drop_all i ls p, drop_all i ss q, drop_all i ws r) tt

-- ---- the order

digits_below : (a b s x y : ℕ) → a < b → x < s → a * s + x < b * s + y
digits_below a b s x y l h = let next : a + 1 ≤ b = omega arith in omega (arith, mul-le-mul_right s next)

-- a greater number before it, or the same and a greater digit
digit_less : (a b l m x y : ℕ) → a < b → x ≤ m → digit_onto a l m x < digit_onto b l m y
digit_less a b l m x y h p = digits_below a b (m - l + 1) (x - l) (y - l) h (omega arith)

word_less : (a b l m x y : ℕ) → a < b → IsBetween l m x → word_onto a l m x < word_onto b l m y
word_less a b l m x y h p =
    digit_less (digit_onto a (high l) (high m) (high x)) (digit_onto b (high l) (high m) (high y)) (low l) (low m) (low x) (low y)
    (digit_less a b (high l) (high m) (high x) (high y) h p.high_to) p.low_to

same_less : (n l m x y : ℕ) → x < y → IsBetween l m x → IsBetween l m y → word_onto n l m x < word_onto n l m y
same_less n l m x y h p q =
    elim (either (high x) (high y)) [
      | inl less ↦
          digit_less (digit_onto n (high l) (high m) (high x)) (digit_onto n (high l) (high m) (high y)) (low l) (low m) (low x) (low y)
          (omega (arith, less, p.high_from)) p.low_to
      | inr from ↦
          let same : high x ≡ high y = omega (arith, h, from) in
          let less : low x < low y = omega (arith, h, same) in
          subst (λ (z : ℕ). word_onto n l m x < digit_onto (digit_onto n (high l) (high m) z) (low l) (low m) (low y)) same (omega (arith, less, p.low_from))
    ]

below : (a b : ℕ) (ls ms xs ys : List ℕ) → a < b → IsWithin ls ms xs → IsWithin ls ms ys → packed_onto a ls ms xs < packed_onto b ls ms ys
below a b [] [] [] [] h p q = h
below a b (l ∷ ls) (m ∷ ms) (x ∷ xs) (y ∷ ys) h p q = below (word_onto a l m x) (word_onto b l m y) ls ms xs ys (word_less a b l m x y h p.0) p.1 q.1
below a b [] [] [] (y ∷ ys) h p q = absurd q
below a b (l ∷ ls) (m ∷ ms) (x ∷ xs) [] h p q = absurd q
below a b ls ms xs ys h p q = absurd p

not_less : (x y : ℕ) (rest : Ordering) → y < x → ordering_then (nat_cmp x y) rest ≡ Less → ⊥
not_less x y rest m e = let t : Greater ≡ Less = ap (λ (r : Ordering). ordering_then r rest) (nat_cmp_is x y Greater m) ∙ e in cc

rest_less : (x y : ℕ) (rest : Ordering) → x ≡ y → ordering_then (nat_cmp x y) rest ≡ Less → rest ≡ Less
rest_less x y rest m e = ap (λ (r : Ordering). ordering_then r rest) (nat_cmp_is x y Equal m) ∙ e

less_packed : (n : ℕ) (ls ms xs ys : List ℕ) → IsWithin ls ms xs → IsWithin ls ms ys → words_cmp xs ys ≡ Less → packed_onto n ls ms xs < packed_onto n ls ms ys
less_packed n [] [] [] [] p q e = absurd (cc)
less_packed n (l ∷ ls) (m ∷ ms) (x ∷ xs) (y ∷ ys) p q e =
    elim (either x y) [
      | inl h ↦ below (word_onto n l m x) (word_onto n l m y) ls ms xs ys (same_less n l m x y h p.0 q.0) p.1 q.1
      | inr h ↦ elim (either y x) [
        | inl less ↦ absurd (not_less x y (words_cmp xs ys) less e)
        | inr from ↦
            let same : x ≡ y = omega arith in
            subst (λ (w : ℕ). packed_onto (word_onto n l m x) ls ms xs < packed_onto (word_onto n l m w) ls ms ys) same
            (less_packed (word_onto n l m x) ls ms xs ys p.1 q.1 (rest_less x y (words_cmp xs ys) same e))
      ]
    ]
less_packed n [] [] [] (y ∷ ys) p q e = absurd q
less_packed n (l ∷ ls) (m ∷ ms) (x ∷ xs) [] p q e = absurd q
less_packed n ls ms xs ys p q e = absurd p

-- ---- one row on

pub packed_at : (ls ss : List ℕ) (rows : List Row) (i n : ℕ) (x : Row) → i < length rows → x ≡ get_or rows i x → n % 524288 ≡ i → n / 524288 ≡ packed_onto 0 ls ss x.key → IsWithin ls ss x.key → IsPacked ls ss rows i n
packed_at ls ss rows i n x l e p q w =
    let same : x ≡ row_of rows i = e ∙ get_or_default rows i x (row [] []) l in
    record { place = p; within = subst (λ (y : Row). IsWithin ls ss y.key) same w; words = subst (λ (y : Row). n / 524288 ≡ packed_onto 0 ls ss y.key) same q }

pub long_push : (xs ys : List ℕ) (i n : ℕ) → ys ≡ xs ++ n ∷ [] → length xs ≡ i → length ys ≡ i + 1
long_push xs ys i n e l = omega (arith, ap length e, length-append xs (n ∷ []))

pub packed_push : (ls ss : List ℕ) (rows : List Row) (xs ys : List ℕ) (i n : ℕ) → ys ≡ xs ++ n ∷ [] → length xs ≡ i → ((k : ℕ) → k < i → IsPacked ls ss rows k (get_or xs k 0)) → IsPacked ls ss rows i n → (k : ℕ) → k < i + 1 → IsPacked ls ss rows k (get_or ys k 0)
packed_push ls ss rows xs ys i n e l each here k h =
    subst (λ (zs : List ℕ). IsPacked ls ss rows k (get_or zs k 0)) (sym e)
    (elim (either k i) [
      | inl below ↦ subst (λ (m : ℕ). IsPacked ls ss rows k m) (sym (get_or_append_left xs (n ∷ []) 0 k (omega arith))) (each k below)
      | inr from ↦
          let same : i ≡ k = omega arith in
          subst (λ (j : ℕ). IsPacked ls ss rows j (get_or (xs ++ n ∷ []) j 0)) same (subst (λ (m : ℕ). IsPacked ls ss rows i m) (sym (get_or_push xs n 0 i l)) here)
    ])

-- ---- the rows in the order of their numbers

-- a number of some row
record IsRowNumber (ls ss : List ℕ) (rows : List Row) (x : ℕ) : Type 0 where
  pub place : x % 524288 < length rows
  pub within : IsWithin ls ss (row_of rows (x % 524288)).key
  pub words : x / 524288 ≡ packed_onto 0 ls ss (row_of rows (x % 524288)).key

number_at : (ls ss : List ℕ) (rows : List Row) (at x : ℕ) → at < length rows → IsPacked ls ss rows at x → IsRowNumber ls ss rows x
number_at ls ss rows at x l h = record {
  place = omega (arith, h.place);
  within = subst (λ (n : ℕ). IsWithin ls ss (row_of rows n).key) (sym h.place) h.within;
  words = subst (λ (n : ℕ). x / 524288 ≡ packed_onto 0 ls ss (row_of rows n).key) (sym h.place) h.words;
}

all_numbers : (ls ss : List ℕ) (rows : List Row) (xs : List ℕ) → ArePacked ls ss rows xs → All (IsRowNumber ls ss rows) xs
all_numbers ls ss rows xs a = All-from_get_or (IsRowNumber ls ss rows) xs 0 (λ k l. number_at ls ss rows k (get_or xs k 0) (omega (arith, a.long)) (a.each k l))

same_order : (ls ss : List ℕ) (rows : List Row) (xs : List ℕ) → ArePacked ls ss rows xs → in_order rows xs ≡ rows
same_order ls ss rows xs a =
    let f : ℕ → Row = λ (x : ℕ). row_of rows (x % 524288) in
    let long : length (in_order rows xs) ≡ length xs = length-map xs f in
    same_lists (in_order rows xs) rows (long ∙ a.long)
    (λ k d l. get_or-map f xs k 0 d (omega arith) ∙ ap (row_of rows) ((a.each k (omega arith)).place) ∙ get_or_default rows k (row [] []) d (omega (arith, a.long)))

not_below : (ls ss : List ℕ) (rows : List Row) (x y : ℕ) → x ≤ y → IsRowNumber ls ss rows x → IsRowNumber ls ss rows y → is_lt (words_cmp (row_of rows (y % 524288)).key (row_of rows (x % 524288)).key) ≡ false
not_below ls ss rows x y l p q =
    let a = (row_of rows (x % 524288)).key in
    let b = (row_of rows (y % 524288)).key in
    elim (words_cmp b a) as (λ (r : Ordering). words_cmp b a ≡ r → is_lt r ≡ false) [
      | Less ↦ λ e. absurd (omega (arith, less_packed 0 ls ss b a q.within p.within e, p.words, q.words))
      | Equal ↦ λ e. refl
      | Greater ↦ λ e. refl
    ] refl

rises_in_order : (ls ss : List ℕ) (rows : List Row) (xs : List ℕ) → All (IsRowNumber ls ss rows) xs → IsNonDecreasing xs → Rises (in_order rows xs)
rises_in_order ls ss rows xs a up =
    let f : ℕ → Row = λ (x : ℕ). row_of rows (x % 524288) in
    let long : length (in_order rows xs) ≡ length xs = length-map xs f in
    rises_from_sort (in_order rows xs)
    (λ k d low high.
    let second = get_or-map f xs (k + 1) 0 d (omega arith) in
    let first = get_or-map f xs k 0 d (omega arith) in
    ap (λ (z : Row). is_lt (words_cmp z.key (get_or (in_order rows xs) k d).key)) second
    ∙ ap (λ (z : Row). is_lt (words_cmp (f (get_or xs (k + 1) 0)).key z.key)) first
    ∙ not_below ls ss rows (get_or xs k 0) (get_or xs (k + 1) 0) (up k (k + 1) 0 (omega arith) (omega arith)) (All-get_or (IsRowNumber ls ss rows) xs k 0 (omega arith) a) (All-get_or (IsRowNumber ls ss rows) xs (k + 1) 0 (omega arith) a))

pub next_in_order : (rows : List Row) (xs : List ℕ) (i : ℕ) (x : Row) → i < length xs → x ≡ row_of rows (get_or xs i 0 % 524288) → x ≡ get_or (in_order rows xs) i x
next_in_order rows xs i x l e = e ∙ sym (get_or-map (λ (n : ℕ). row_of rows (n % 524288)) xs i 0 x l)

pub in_order_long : (rows : List Row) (xs : List ℕ) → length (in_order rows xs) ≡ length xs
in_order_long rows xs = length-map xs (λ (n : ℕ). row_of rows (n % 524288))

pub sorted_order : (ls ss : List ℕ) (rows : List Row) (xs ys : List ℕ) → ArePacked ls ss rows xs → IsPermutation xs ys → IsNonDecreasing ys → IsOrder rows ys
sorted_order ls ss rows xs ys a p up =
    let numbers : All (IsRowNumber ls ss rows) ys = All-permutation (IsRowNumber ls ss rows) xs ys p (all_numbers ls ss rows xs a) in
    record {
      places = λ k d l. (numbers k d l).place;
      permutation = subst (λ (rs : List Row). IsPermutation rs (in_order rows ys)) (same_order ls ss rows xs a) (IsPermutation-map (λ (x : ℕ). row_of rows (x % 524288)) xs ys p);
      rises = rises_in_order ls ss rows ys numbers up;
    }

pub all_small : (rows : List Row) (xs : List ℕ) → IsOrder rows xs → Small (total_at rows) → Small (total_at (in_order rows xs))
all_small rows xs o small q i = omega (arith, sum_by-IsPermutation (part q i) rows (in_order rows xs) o.permutation, small q i)

pub total_in_order : (rows : List Row) (xs : List ℕ) (out : List Row) → IsOrder rows xs → out ≡ folded (in_order rows xs) → (q : List ℕ) (i : ℕ) → total_at out q i ≡ total_at rows q i
total_in_order rows xs out o e q i =
    ap (λ (ys : List Row). total_at ys q i) e ∙ folded-sum (part q i) (part_adds q i) (in_order rows xs) ∙ sum_by-IsPermutation (part q i) rows (in_order rows xs) o.permutation

pub run_in_order : (rows : List Row) (xs : List ℕ) (out : List Row) → IsOrder rows xs → Counted rows → out ≡ folded (in_order rows xs) → IsRun out
run_in_order rows xs out o c e =
    subst IsRun (sym e) (folded_run (in_order rows xs) o.rises (All-permutation (λ (x : Row). 0 < get_or x.numbers 0 0) rows (in_order rows xs) o.permutation c))
