-- The total of a key in a run is its one row's.
use Rattle.std.proofs.Common.{◌≡◌, ℕ, zero, suc, ◌+◌, ◌<◌, ◌≤◌, Bool, true, false, cond, List, [], ◌∷◌, length, get_or, refl, sym, ap, ◌∙◌, subst, arith, ◌⊎◌, inl, inr}
use Rattle.std.specs.List.{AllWithin}
use Rattle.std.specs.List.Sorted.{IsSortedBy}
use Rattle.std.specs.Ordering.{is_eq, is_lt, ordering_reverse}
use Rattle.std.specs.declared.cmp.Ordering.{Ordering}
use Rattle.std.specs.declared.cmp.Ordering.TheVariants.{Less, Equal, Greater}
use Rattle.std.proofs.lemmas.Cmp.{nat_list_cmp_total, tied_itself}
use Rattle.std.proofs.lemmas.List.Sums.{sum_by-cons}
use Rattle.flow_rows.proofs.Additive.{keys_same}
use Rattle.flow_rows.specs.Rows.{Row, Above, Ascends, part, total_at, words_cmp}

pub part_other : (q : List ℕ) (i : ℕ) (x : Row) → is_eq (words_cmp x.key q) ≡ false → part q i x ≡ 0
part_other q i x e = ap (λ (b : Bool). cond b (get_or x.numbers i 0) 0) e

pub part_same : (q : List ℕ) (i : ℕ) (x : Row) → is_eq (words_cmp x.key q) ≡ true → part q i x ≡ get_or x.numbers i 0
part_same q i x e = ap (λ (b : Bool). cond b (get_or x.numbers i 0) 0) e

turned_eq : (x y : List ℕ) → words_cmp x y ≡ Less → is_eq (words_cmp y x) ≡ false
turned_eq x y e = ap is_eq (nat_list_cmp_total.antisymm y x) ∙ ap (λ (r : Ordering). is_eq (ordering_reverse r)) e

pub above_total : (q : List ℕ) (i : ℕ) (xs : List Row) → Above q xs → total_at xs q i ≡ 0
above_total q i [] a = refl
above_total q i (x ∷ xs) a = omega (arith, sum_by-cons (part q i) x xs, part_other q i x (turned_eq q x.key a.0), above_total q i xs a.1)

above_at : (k : List ℕ) (xs : List Row) (n : ℕ) (d : Row) → n < length xs → Above k xs → words_cmp k (get_or xs n d).key ≡ Less
above_at k [] n d l a = absurd (omega arith)
above_at k (x ∷ xs) zero d l a = a.0
above_at k (x ∷ xs) (suc n) d l a = above_at k xs n d (omega arith) a.1

-- at a place of a run
pub total_here : (xs : List Row) (n : ℕ) (d : Row) (i : ℕ) → n < length xs → Ascends xs → total_at xs (get_or xs n d).key i ≡ get_or (get_or xs n d).numbers i 0
total_here [] n d i l a = absurd (omega arith)
total_here (x ∷ xs) zero d i l a =
    omega (arith, sum_by-cons (part x.key i) x xs, part_same x.key i x (ap is_eq (tied_itself nat_list_cmp_total x.key)), above_total x.key i xs a.0)
total_here (x ∷ xs) (suc n) d i l a =
    let k = (get_or xs n d).key in
    omega (arith, sum_by-cons (part k i) x xs, part_other k i x (ap is_eq (above_at x.key xs n d (omega arith) a.0)), total_here xs n d i (omega arith) a.1)

pub total_none : (q : List ℕ) (i : ℕ) (xs : List Row) → ((n : ℕ) (d : Row) → n < length xs → is_eq (words_cmp (get_or xs n d).key q) ≡ false) → total_at xs q i ≡ 0
total_none q i [] h = refl
total_none q i (x ∷ xs) h = omega (arith, sum_by-cons (part q i) x xs, part_other q i x (h 0 x (omega arith)), total_none q i xs (λ n d l. h (suc n) d (omega arith)))

turned_lt : (x y : List ℕ) → words_cmp x y ≡ Less → is_lt (words_cmp y x) ≡ false
turned_lt x y e = ap is_lt (nat_list_cmp_total.antisymm y x) ∙ ap (λ (r : Ordering). is_lt (ordering_reverse r)) e

sorted_along : (xs : List Row) → Ascends xs → (k : ℕ) (d : Row) → suc k < length xs → is_lt (words_cmp (get_or xs (suc k) d).key (get_or xs k d).key) ≡ false
sorted_along [] a k d l = absurd (omega arith)
sorted_along (x ∷ xs) a zero d l = turned_lt x.key (get_or xs 0 d).key (above_at x.key xs 0 d (omega arith) a.0)
sorted_along (x ∷ xs) a (suc k) d l = sorted_along xs a.1 k d (omega arith)

pub sorted_from_ascends : (xs : List Row) → Ascends xs → IsSortedBy (λ (x y : Row). is_lt (words_cmp x.key y.key)) xs
sorted_from_ascends xs a k d low high = let e : suc k ≡ k + 1 = omega arith in subst (λ (n : ℕ). is_lt (words_cmp (get_or xs n d).key (get_or xs k d).key) ≡ false) e (sorted_along xs a k d (omega arith))

pub found_total : (xs : List Row) (n : ℕ) (x : Row) (q : List ℕ) → Ascends xs → n < length xs → x ≡ get_or xs n x → words_cmp (get_or xs n x).key q ≡ Equal → (i : ℕ) → total_at xs q i ≡ get_or x.numbers i 0
found_total xs n x q a l e same i =
    ap (λ (k : List ℕ). total_at xs k i) (sym (keys_same (get_or xs n x).key q same)) ∙ total_here xs n x i l a ∙ ap (λ (y : Row). get_or y.numbers i 0) (sym e)

pub either : (n m : ℕ) → (n < m) ⊎ (m ≤ n)
either n zero = inr (omega arith)
either zero (suc m) = inl (omega arith)
either (suc n) (suc m) = elim (either n m) [ inl h ↦ inl (omega arith) | inr h ↦ inr (omega arith) ]

apart : (xs : List Row) (q : List ℕ) (m n : ℕ) (d : Row) → (n < m) ⊎ (m ≤ n) → AllWithin (λ (y : Row). words_cmp y.key q ≡ Less) xs 0 m → AllWithin (λ (y : Row). words_cmp y.key q ≡ Greater) xs m (length xs) → n < length xs → is_eq (words_cmp (get_or xs n d).key q) ≡ false
apart xs q m n d (inl h) f g l = ap is_eq (f n d (omega arith) h)
apart xs q m n d (inr h) f g l = ap is_eq (g n d h l)

pub none_total : (xs : List Row) (q : List ℕ) (m : ℕ) → AllWithin (λ (y : Row). words_cmp y.key q ≡ Less) xs 0 m → AllWithin (λ (y : Row). words_cmp y.key q ≡ Greater) xs m (length xs) → (i : ℕ) → total_at xs q i ≡ 0
none_total xs q m f g i = total_none q i xs (λ n d l. apart xs q m n d (either n m) f g l)
