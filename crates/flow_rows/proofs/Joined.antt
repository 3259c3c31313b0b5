-- Keys compare by pairs of words, each as one number of 128 bits.
use Rattle.std.proofs.Common.{◌≡◌, ℕ, ◌+◌, ◌*◌, ◌<◌, List, length, get_or, drop, refl, sym, ap, ◌∙◌, arith, inl, inr}
use Rattle.std.specs.Ordering.{nat_cmp, ordering_then}
use Rattle.std.specs.Cmp.{nat_cmp_is}
use Rattle.std.specs.declared.cmp.Ordering.{Ordering}
use Rattle.std.specs.declared.cmp.Ordering.TheVariants.{Less, Equal, Greater}
use Rattle.std.proofs.lemmas.List.{drop_all, drop_more}
use Rattle.flow_rows.proofs.Found.{either}
use Rattle.flow_rows.specs.Rows.{words_cmp}

lows : (a b x y : ℕ) → a ≡ b → ordering_then (nat_cmp x y) Equal ≡ nat_cmp (a * 18446744073709551616 + x) (b * 18446744073709551616 + y)
lows a b x y e =
    elim (either x y) [
      | inl l ↦ ap (λ (r : Ordering). ordering_then r Equal) (sym (nat_cmp_is x y Less l)) ∙ nat_cmp_is (a * 18446744073709551616 + x) (b * 18446744073709551616 + y) Less (omega arith)
      | inr l ↦ elim (either y x) [
        | inl m ↦ ap (λ (r : Ordering). ordering_then r Equal) (sym (nat_cmp_is x y Greater m)) ∙ nat_cmp_is (a * 18446744073709551616 + x) (b * 18446744073709551616 + y) Greater (omega arith)
        | inr m ↦ ap (λ (r : Ordering). ordering_then r Equal) (sym (nat_cmp_is x y Equal (omega arith))) ∙ nat_cmp_is (a * 18446744073709551616 + x) (b * 18446744073709551616 + y) Equal (omega arith)
      ]
    ]

joined : (a b x y : ℕ) → x < 18446744073709551616 → y < 18446744073709551616 → ordering_then (nat_cmp a b) (ordering_then (nat_cmp x y) Equal) ≡ nat_cmp (a * 18446744073709551616 + x) (b * 18446744073709551616 + y)
joined a b x y p q =
    elim (either a b) [
      | inl l ↦ ap (λ (r : Ordering). ordering_then r (ordering_then (nat_cmp x y) Equal)) (sym (nat_cmp_is a b Less l)) ∙ nat_cmp_is (a * 18446744073709551616 + x) (b * 18446744073709551616 + y) Less (omega arith)
      | inr l ↦ elim (either b a) [
        | inl m ↦ ap (λ (r : Ordering). ordering_then r (ordering_then (nat_cmp x y) Equal)) (sym (nat_cmp_is a b Greater m)) ∙ nat_cmp_is (a * 18446744073709551616 + x) (b * 18446744073709551616 + y) Greater (omega arith)
        | inr m ↦ ap (λ (r : Ordering). ordering_then r (ordering_then (nat_cmp x y) Equal)) (sym (nat_cmp_is a b Equal (omega arith))) ∙ lows a b x y (omega arith)
      ]
    ]

abbrev pub pair : List ℕ → ℕ → ℕ
pair xs n = get_or xs n 0 * 18446744073709551616 + get_or xs (n + 1) 0

pub then_assoc : (a b c : Ordering) → ordering_then (ordering_then a b) c ≡ ordering_then a (ordering_then b c)
then_assoc Less b c = refl
then_assoc Equal b c = refl
then_assoc Greater b c = refl

then_equal : (a : Ordering) → ordering_then a Equal ≡ a
then_equal Less = refl
then_equal Equal = refl
then_equal Greater = refl

-- how what is left of two keys compares, one word on
one_on : (xs ys : List ℕ) (n : ℕ) → n < length xs → length xs ≡ length ys → words_cmp (drop n xs) (drop n ys) ≡ ordering_then (nat_cmp (get_or xs n 0) (get_or ys n 0)) (words_cmp (drop (n + 1) xs) (drop (n + 1) ys))
one_on xs ys n l e = rw (drop_more xs n 0 l, drop_more ys n 0 (omega arith)) refl

-- and two
pub two_on : (xs ys : List ℕ) (n : ℕ) → n + 1 < length xs → length xs ≡ length ys → get_or xs (n + 1) 0 < 18446744073709551616 → get_or ys (n + 1) 0 < 18446744073709551616 → words_cmp (drop n xs) (drop n ys) ≡ ordering_then (nat_cmp (pair xs n) (pair ys n)) (words_cmp (drop (n + 1 + 1) xs) (drop (n + 1 + 1) ys))
two_on xs ys n l e p q =
    let a = nat_cmp (get_or xs n 0) (get_or ys n 0) in
    let b = nat_cmp (get_or xs (n + 1) 0) (get_or ys (n + 1) 0) in
    let rest = words_cmp (drop (n + 1 + 1) xs) (drop (n + 1 + 1) ys) in
    one_on xs ys n (omega arith) e
    ∙ ap (ordering_then a) (one_on xs ys (n + 1) l e)
    ∙ sym (then_assoc a b rest)
    ∙ ap (λ (r : Ordering). ordering_then r rest) (ap (ordering_then a) (sym (then_equal b)) ∙ joined (get_or xs n 0) (get_or ys n 0) (get_or xs (n + 1) 0) (get_or ys (n + 1) 0) p q)

-- no word is left
pub none_on : (o : Ordering) (xs ys : List ℕ) (n : ℕ) → n ≡ length xs → length xs ≡ length ys → words_cmp xs ys ≡ ordering_then o (words_cmp (drop n xs) (drop n ys)) → o ≡ words_cmp xs ys
none_on o xs ys n l e c = sym (then_equal o) ∙ ap (ordering_then o) (rw (drop_all n xs (omega arith), drop_all n ys (omega arith)) refl) ∙ sym c

-- one is left
pub last_on : (o : Ordering) (xs ys : List ℕ) (n : ℕ) → n + 1 ≡ length xs → length xs ≡ length ys → words_cmp xs ys ≡ ordering_then o (words_cmp (drop n xs) (drop n ys)) → ordering_then o (nat_cmp (get_or xs n 0) (get_or ys n 0)) ≡ words_cmp xs ys
last_on o xs ys n l e c =
    let first = nat_cmp (get_or xs n 0) (get_or ys n 0) in
    ap (ordering_then o) (sym (then_equal first) ∙ ap (ordering_then first) (rw (drop_all (n + 1) xs (omega arith), drop_all (n + 1) ys (omega arith)) refl) ∙ sym (one_on xs ys n (omega arith) e)) ∙ sym c
