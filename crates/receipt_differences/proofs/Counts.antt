-- Counts by tests, and of what is alike.
use Rattle.std.proofs.Common.{◌≡◌, ◌∙◌, ℕ, ◌+◌, ◌<◌, ◌≤◌, List, [], ◌∷◌, length, take, drop, get_or, refl, sym, ap, subst, arith, inl, inr}
use Rattle.std.specs.Prelude.{◌⊎◌, ◌&&◌, Bool, true, false, All, cond, nat_lt, not}
use Rattle.std.specs.Cmp.{IsEquivalence}
use Rattle.std.specs.List.{AllWithin, count_by}
use Rattle.std.specs.List.Sorted.{IsPartitionPoint}
use Rattle.std.specs.Ordering.{is_eq, is_le, is_lt}
use Rattle.std.specs.declared.cmp.Ordering.{Ordering}
use Rattle.std.specs.declared.cmp.Ordering.TheVariants.{Less, Equal, Greater}
use Rattle.std.proofs.lemmas.Bool.Decides.{nat_tests}
use Rattle.std.proofs.lemmas.List.{get_or-drop, get_or-take, length-drop, length-take-le}
use Rattle.std.proofs.lemmas.List.Elements.{All-cons, All-head, All-nil, All-tail, All-weaker}
use Rattle.std.proofs.lemmas.List.Sums.{sum_by-cons, sum_by-take-drop}

pub not_less : (a b : ℕ) → nat_lt a b ≡ false → b ≤ a
not_less a b is = grind (arith, nat_tests)

pub less_not : (a b : ℕ) → b ≤ a → nat_lt a b ≡ false
less_not a b is = grind (arith, nat_tests)

none_first : (b : Bool) (n : ℕ) → cond b 1 0 + n ≡ 0 → (b ≡ false) × (n ≡ 0)
none_first true n e = absurd (omega arith)
none_first false n e = (refl, omega arith)

first_none : (b : Bool) (n : ℕ) → b ≡ false → n ≡ 0 → cond b 1 0 + n ≡ 0
first_none true n is none = absurd cc
first_none false n is none = omega arith

pub count_cons : {X : Type 0} (p : X → Bool) (x : X) (xs : List X) → count_by p (x ∷ xs) ≡ cond (p x) 1 0 + count_by p xs
count_cons p x xs = sum_by-cons (λ x. cond (p x) 1 0) x xs

none_counted : {X : Type 0} (p : X → Bool) (xs : List X) → count_by p xs ≡ 0 → All (λ x. p x ≡ false) xs
none_counted p [] e = All-nil (λ x. p x ≡ false)
none_counted p (x ∷ xs) e =
    let parts = none_first (p x) (count_by p xs) (sym (count_cons p x xs) ∙ e) in
    All-cons (λ x. p x ≡ false) x xs parts.0 (none_counted p xs parts.1)

pub count_none : {X : Type 0} (p : X → Bool) (xs : List X) → All (λ x. p x ≡ false) xs → count_by p xs ≡ 0
count_none p [] none = refl
count_none p (x ∷ xs) none =
    let first = All-head (λ x. p x ≡ false) x xs none in
    let rest = count_none p xs (All-tail (λ x. p x ≡ false) x xs none) in
    count_cons p x xs ∙ first_none (p x) (count_by p xs) first rest

-- as many of all as of the others, if that is so wherever one is counted
counted_within : {X : Type 0} (p : X → Bool) (xs all others : List X) → All (λ x. p x ≡ true → count_by p all ≤ count_by p others) xs → (count_by p xs ≡ 0) ⊎ (count_by p all ≤ count_by p others)
counted_within p [] all others each = inl refl
counted_within {X} p (x ∷ xs) all others each =
    by (p x) refl (counted_within p xs all others (All-tail (λ x. p x ≡ true → count_by p all ≤ count_by p others) x xs each))
  where
    by : (b : Bool) → p x ≡ b → (count_by p xs ≡ 0) ⊎ (count_by p all ≤ count_by p others) → (count_by p (x ∷ xs) ≡ 0) ⊎ (count_by p all ≤ count_by p others)
    by true is rest = inr (All-head (λ x. p x ≡ true → count_by p all ≤ count_by p others) x xs each is)
    by false is (inl none) = inl (count_cons p x xs ∙ first_none (p x) (count_by p xs) is none)
    by false is (inr enough) = inr enough

pub at_most : {X : Type 0} (p : X → Bool) (all others : List X) → All (λ x. p x ≡ true → count_by p all ≤ count_by p others) all → count_by p all ≤ count_by p others
at_most p all others each = by (counted_within p all all others each)
  where
    by : (count_by p all ≡ 0) ⊎ (count_by p all ≤ count_by p others) → count_by p all ≤ count_by p others
    by (inl none) = omega arith
    by (inr enough) = enough

-- ---- of what is alike

pub count_same : {X : Type 0} (p q : X → Bool) → ((x : X) → p x ≡ q x) → (xs : List X) → count_by p xs ≡ count_by q xs
count_same p q same [] = refl
count_same p q same (x ∷ xs) = count_cons p x xs ∙ (λ k. cond (same x k) 1 0 + count_same p q same xs k) ∙ sym (count_cons q x xs)

parts : (a b : Bool) (m n k : ℕ) → (b ≡ true → a ≡ true) → m ≡ n + k → cond a 1 0 + m ≡ (cond b 1 0 + n) + (cond (a && not b) 1 0 + k)
parts true true m n k within same = omega arith
parts true false m n k within same = omega arith
parts false true m n k within same = let e = within refl in absurd cc
parts false false m n k within same = omega arith

-- those of a part, and the others
pub count_parts : {X : Type 0} (p l : X → Bool) → ((x : X) → l x ≡ true → p x ≡ true) → (xs : List X) → count_by p xs ≡ count_by l xs + count_by (λ x. p x && not (l x)) xs
count_parts p l within [] = refl
count_parts p l within (x ∷ xs) =
    let rest = count_parts p l within xs in
    let one = count_cons p x xs in
    let two = count_cons l x xs in
    let three = count_cons (λ y. p y && not (l y)) x xs in
    let all = parts (p x) (l x) (count_by p xs) (count_by l xs) (count_by (λ y. p y && not (l y)) xs) (within x) rest in
    omega arith

-- all but the first that passes
without : {X : Type 0} → (X → Bool) → List X → List X
without p [] = []
without p (y ∷ ys) = cond (p y) ys (y ∷ without p ys)

count_without : {X : Type 0} (p q : X → Bool) (b : Bool) → ((y : X) → p y ≡ true → q y ≡ b) → (ys : List X) → 1 ≤ count_by p ys → count_by q ys ≡ cond b 1 0 + count_by q (without p ys)
unfolding without
count_without p q b same [] some = absurd (omega arith)
count_without {X} p q b same (y ∷ ys) some = by (p y) refl (count_without p q b same ys)
  where
    first : count_by q (y ∷ ys) ≡ cond (q y) 1 0 + count_by q ys
    first = count_cons q y ys

    by : (t : Bool) → p y ≡ t → (1 ≤ count_by p ys → count_by q ys ≡ cond b 1 0 + count_by q (without p ys)) → count_by q (y ∷ ys) ≡ cond b 1 0 + count_by q (cond (p y) ys (y ∷ without p ys))
    by true is later = rw (is, first, same y is) refl
    by false is later =
        let counted : count_by p (y ∷ ys) ≡ 0 + count_by p ys = count_cons p y ys ∙ ap (λ t. cond t 1 0 + count_by p ys) is in
        let left : 1 ≤ count_by p ys = omega arith in
        let rest = later left in
        let again : count_by q (cond (p y) ys (y ∷ without p ys)) ≡ cond (q y) 1 0 + count_by q (without p ys) = ap (λ t. count_by q (cond t ys (y ∷ without p ys))) is ∙ count_cons q y (without p ys) in
        omega (arith, first)

-- where no more of any are like it than of the others, no more pass a test that likeness keeps
module _ {X : Type 0} (like : X → X → Bool) (level : IsEquivalence like) where
  pub dominated : (q : X → Bool) → ((x y : X) → like x y ≡ true → q x ≡ q y) → (xs ys : List X) → ((x : X) → count_by (like x) xs ≤ count_by (like x) ys) → count_by q xs ≤ count_by q ys
  dominated q keeps [] ys each = omega arith
  dominated q keeps (x ∷ xs) ys each =
      let itself : count_by (like x) (x ∷ xs) ≡ 1 + count_by (like x) xs = count_cons (like x) x xs ∙ ap (λ t. cond t 1 0 + count_by (like x) xs) (level.refl x) in
      let most = each x in
      let some : 1 ≤ count_by (like x) ys = omega arith in
      let less : (z : X) → count_by (like z) xs ≤ count_by (like z) (without (like x) ys) = λ z.
      let more = each z in
      let one = count_cons (like z) x xs in
      let two = count_without (like x) (like z) (like z x) (λ y is. level.symm z y ∙ sym (level.congr x y z is) ∙ level.symm x z) ys some in
      omega arith in
      let rest = dominated q keeps xs (without (like x) ys) less in
      let here = count_cons q x xs in
      let there = count_without (like x) q (q x) (λ y is. sym (keeps x y is)) ys some in
      omega arith

-- ---- of what is equal, in an order

before_it : {X : Type 0} (P : X → Type 0) (xs : List X) (start : ℕ) → start ≤ length xs → AllWithin P xs 0 start → All P (take start xs)
before_it P xs start within all = λ k d lt.
    let long = length-take-le start xs within in
    let inside : k < start = omega arith in
    subst P (sym (get_or-take start xs k d inside)) (all k d (omega arith) inside)

after_it : {X : Type 0} (P : X → Type 0) (xs : List X) (start : ℕ) → AllWithin P xs start (length xs) → All P (drop start xs)
after_it P xs start all = λ k d lt.
    let long = length-drop start xs in
    subst P (sym (get_or-drop start xs k d)) (all (start + k) d (omega arith) (omega arith))

pub count_all : {X : Type 0} (p : X → Bool) (xs : List X) → All (λ x. p x ≡ true) xs → count_by p xs ≡ length xs
count_all p [] all = refl
count_all p (x ∷ xs) all =
    let first = All-head (λ x. p x ≡ true) x xs all in
    let rest = count_all p xs (All-tail (λ x. p x ≡ true) x xs all) in
    let here : count_by p (x ∷ xs) ≡ 1 + count_by p xs = count_cons p x xs ∙ ap (λ t. cond t 1 0 + count_by p xs) first in
    omega arith

less_unequal : (r : Ordering) → is_lt r ≡ true → is_eq r ≡ false
less_unequal Less e = refl
less_unequal Equal e = absurd cc
less_unequal Greater e = refl

more_unequal : (r : Ordering) → is_le r ≡ false → is_eq r ≡ false
more_unequal Less e = refl
more_unequal Equal e = absurd cc
more_unequal Greater e = refl

between_equal : (r : Ordering) → is_lt r ≡ false → is_le r ≡ true → is_eq r ≡ true
between_equal Less e f = absurd cc
between_equal Equal e f = refl
between_equal Greater e f = absurd cc

module _ {X : Type 0} (r : X → Ordering) where
  pub count_between : (xs rest : List X) (start end : ℕ) → start ≤ length xs → rest ≡ drop start xs → end ≤ length rest
      → IsPartitionPoint (λ y. is_lt (r y) ≡ true) (λ y. is_lt (r y) ≡ false) xs start
      → IsPartitionPoint (λ y. is_le (r y) ≡ true) (λ y. is_le (r y) ≡ false) rest end → count_by (λ y. is_eq (r y)) xs ≡ end
  count_between xs rest start end within same inside first last =
      let equal = λ (y : X). is_eq (r y) in
      let one = sum_by-take-drop (λ y. cond (equal y) 1 0) xs start in
      let two = sum_by-take-drop (λ y. cond (equal y) 1 0) rest end in
      let there : count_by equal (drop start xs) ≡ count_by equal rest = ap (count_by equal) (sym same) in
      let none = count_none equal (take start xs) (All-weaker (λ y. is_lt (r y) ≡ true) (λ y. equal y ≡ false) (λ y. less_unequal (r y)) (take start xs) (before_it (λ y. is_lt (r y) ≡ true) xs start within first.0)) in
      let later = count_none equal (drop end rest) (All-weaker (λ y. is_le (r y) ≡ false) (λ y. equal y ≡ false) (λ y. more_unequal (r y)) (drop end rest) (after_it (λ y. is_le (r y) ≡ false) rest end last.1)) in
      let above : All (λ y. is_lt (r y) ≡ false) rest = subst (λ (l : List X). All (λ y. is_lt (r y) ≡ false) l) (sym same) (after_it (λ y. is_lt (r y) ≡ false) xs start first.1) in
      let all : All (λ y. equal y ≡ true) (take end rest) = (λ k d lt.
      let long = length-take-le end rest inside in
      let short : k < end = omega arith in
      subst (λ (y : X). equal y ≡ true) (sym (get_or-take end rest k d short))
      (between_equal (r (get_or rest k d)) (above k d (omega arith)) (last.0 k d (omega arith) short))) in
      let counted = count_all equal (take end rest) all in
      let long = length-take-le end rest inside in
      omega arith
