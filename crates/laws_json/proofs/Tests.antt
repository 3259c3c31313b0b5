-- Tests that each octet of a text passes.
use Rattle.std.proofs.Common.{◌≡◌, ℕ, zero, suc, ◌+◌, ◌/◌, ◌%◌, ◌<◌, ◌&&◌, Bool, true, false, eqb, List, [], ◌∷◌, ◌++◌, refl, sym, ap, subst, ◌∙◌, arith, inl, inr}
use Rattle.std.specs.Prelude.{not}
use Rattle.std.specs.Fmt.{decimal, digits, digits_onto, digit_glyph}
use Rattle.std.specs.List.{list_all}
use Rattle.std.proofs.lemmas.Bool.{cases_Bool, cases_eq, lt-ltb, and_from, and_parts}
use Rattle.std.proofs.lemmas.List.Folds.{list_all-append}
use Rattle.std.proofs.lemmas.List.Sums.{AllPass-from_list_all, list_all-from_AllPass}
use Rattle.std.proofs.Math.Nat.{mod-lt}
use Rattle.element_values.specs.Strings.{is_plain}

abbrev pub Pass : (ℕ → Bool) → List ℕ → Type 0
Pass test text = list_all test text ≡ true

-- no newline stands within a text, and a text stands between quotation marks as it is
abbrev pub stays_in : ℕ → Bool
stays_in b = not (eqb b 10)

abbrev pub Inside : List ℕ → Type 0
Inside = Pass stays_in

abbrev pub IsPlain : List ℕ → Type 0
IsPlain = Pass is_plain

pub both : (test : ℕ → Bool) (xs ys : List ℕ) → Pass test xs → Pass test ys → Pass test (xs ++ ys)
both test xs ys p q = list_all-append test xs ys ∙ and_from _ _ p q

pub weaker : (test other : ℕ → Bool) → ((x : ℕ) → test x ≡ true → other x ≡ true) → (xs : List ℕ) → Pass test xs → Pass other xs
weaker test other each xs p = list_all-from_AllPass other xs (λ k d within. each _ (AllPass-from_list_all test xs p k d within))

-- ---- a test that all numbers below n pass

abbrev pub below : (ℕ → Bool) → ℕ → Bool
below test zero = true
below test (suc n) = test n && below test n

pub passes : (test : ℕ → Bool) (n : ℕ) → below test n ≡ true → (x : ℕ) → x < n → test x ≡ true
passes test zero all x less = absurd (omega (arith, less))
passes test (suc n) all x less =
    let parts = and_parts (test n) (below test n) all in
    elim (cases_eq x n) [
      | inl same ↦ subst (λ (y : ℕ). test y ≡ true) (sym same) parts.0
      | inr differ ↦ passes test n parts.1 x (omega (arith, less, differ))
    ]

-- ---- a test that each digit passes is passed by a number in decimal

digits_pass : (test : ℕ → Bool) → below (λ d. test (48 + d)) 10 ≡ true → (k n : ℕ) (acc : List ℕ) → Pass test acc → Pass test (digits_onto k 10 false n acc)
digits_pass test each zero n acc p = p
digits_pass test each (suc k) n acc p =
    let less : n % 10 < 10 = mod-lt n (omega arith) in
    let glyph : digit_glyph false (n % 10) ≡ 48 + n % 10 = rw (lt-ltb (n % 10) 10 less) refl in
    let here : Pass test (digit_glyph false (n % 10) ∷ acc) = and_from _ _ (ap test glyph ∙ passes (λ d. test (48 + d)) 10 each (n % 10) less) p in
    elim (cases_Bool (eqb (n / 10) 0)) [
      | inl t ↦ rw t here
      | inr f ↦ rw f (digits_pass test each k (n / 10) (digit_glyph false (n % 10) ∷ acc) here)
    ]

pub decimal_passes : (test : ℕ → Bool) → below (λ d. test (48 + d)) 10 ≡ true → (n : ℕ) → Pass test (decimal n)
unfolding digits
decimal_passes test each n = digits_pass test each 64 n [] refl
