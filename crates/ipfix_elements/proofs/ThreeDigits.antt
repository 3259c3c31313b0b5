-- Digits that are written one after another, each over what the one before it may have left.
use Rattle.std.proofs.Common.{◌≡◌, ℕ, ◌+◌, ◌/◌, ◌%◌, ◌<◌, ◌≤◌, List, [], ◌∷◌, ◌++◌, length, drop, take, set, refl, ap, sym, inl, inr, ◌∙◌, length-set, arith}
use Rattle.std.proofs.lemmas.Bool.{cases_lt}
use Rattle.std.proofs.lemmas.Fmt.{decimal_digit}
use Rattle.std.proofs.lemmas.List.{drop-set-lt, take-set, take_more_set}
use Rattle.std.specs.Fmt.{decimal}
use Rattle.itoa.proofs.Decimal.{decimal_two}
use Rattle.ipfix_elements.proofs.Written.{decimal_three}
use Rattle.ipfix_elements.specs.Placed.{Placed}
use Rattle.ipfix_elements.proofs.Places.{then_placed, placed_as}

-- one that is written at a place
pub set_placed : (octets : List ℕ) (at x : ℕ) → at < length octets → Placed octets (set octets at x) at (x ∷ []) (at + 1)
set_placed octets at x inside = record {
  written = take_more_set octets at x inside;
  behind = drop-set-lt (at + 1) octets at x (omega arith);
  moved = omega arith;
  room = length-set octets at x;
}

-- one that is written over by the next piece
pub over_placed : {b c xs : List ℕ} {i j : ℕ} (octets : List ℕ) (x : ℕ) → b ≡ set octets i x → Placed b c i xs j → i < j → Placed octets c i xs j
over_placed {b} {c} {xs} {i} {j} octets x is p more = record {
  written = p.written ∙ ap (λ (t : List ℕ). t ++ xs) (ap (take i) is ∙ take-set octets i x);
  behind = p.behind ∙ ap (drop j) is ∙ drop-set-lt j octets i x more;
  moved = p.moved;
  room = p.room ∙ ap length is ∙ length-set octets i x;
}

three_digits : (octets : List ℕ) (at n : ℕ) → at + 3 ≤ length octets → 100 ≤ n → n < 256
    → Placed octets (set (set (set octets at (48 + n / 100)) (at + 1) (48 + n / 10 % 10)) (at + 1 + 1) (48 + n % 10)) at (decimal n) (at + 1 + 1 + 1)
three_digits octets at n room from below =
    let a = set octets at (48 + n / 100) in
    let b = set a (at + 1) (48 + n / 10 % 10) in
    let a_long : length a ≡ length octets = length-set octets at _ in
    let b_long : length b ≡ length a = length-set a (at + 1) _ in
    placed_as (sym (decimal_three n from below))
    (then_placed (set_placed octets at _ (omega arith)) (then_placed (set_placed a (at + 1) _ (omega (arith, a_long))) (set_placed b (at + 1 + 1) _ (omega (arith, a_long, b_long)))))

two_digits : (octets : List ℕ) (at n : ℕ) → at + 3 ≤ length octets → 10 ≤ n → n < 100
    → Placed octets (set (set (set octets at (48 + n / 100)) at (48 + n / 10 % 10)) (at + 1) (48 + n % 10)) at (decimal n) (at + 1 + 1)
two_digits octets at n room from below =
    let a = set octets at (48 + n / 100) in
    let b = set a at (48 + n / 10 % 10) in
    let a_long : length a ≡ length octets = length-set octets at _ in
    let b_long : length b ≡ length a = length-set a at _ in
    let tens : n / 10 % 10 ≡ n / 10 = omega arith in
    let digits : (48 + n / 10 % 10) ∷ (48 + n % 10) ∷ [] ≡ decimal n = rw tens (sym (decimal_two n from below)) in
    over_placed octets (48 + n / 100) refl
    (placed_as digits (then_placed (set_placed a at _ (omega (arith, a_long))) (set_placed b (at + 1) _ (omega (arith, a_long, b_long))))) (omega arith)

one_digit : (octets : List ℕ) (at n : ℕ) → at + 3 ≤ length octets → n < 10
    → Placed octets (set (set (set octets at (48 + n / 100)) at (48 + n / 10 % 10)) at (48 + n % 10)) at (decimal n) (at + 1)
one_digit octets at n room below =
    let a = set octets at (48 + n / 100) in
    let b = set a at (48 + n / 10 % 10) in
    let a_long : length a ≡ length octets = length-set octets at _ in
    let b_long : length b ≡ length a = length-set a at _ in
    let ones : n % 10 ≡ n = omega arith in
    let digits : (48 + n % 10) ∷ [] ≡ decimal n = rw ones (sym (decimal_digit n below)) in
    over_placed octets (48 + n / 100) refl
    (over_placed a (48 + n / 10 % 10) refl (placed_as digits (set_placed b at _ (omega (arith, a_long, b_long)))) (omega arith)) (omega arith)

-- a number of at most three digits: a zero before it doesn't move the place of the next
pub decimal_placed : (octets : List ℕ) (at tens ones n : ℕ) → at + 3 ≤ length octets → n < 256
    → (100 ≤ n → tens ≡ at + 1) → (n < 100 → tens ≡ at) → (10 ≤ n → ones ≡ tens + 1) → (n < 10 → ones ≡ tens)
    → Placed octets (set (set (set octets at (48 + n / 100)) tens (48 + n / 10 % 10)) ones (48 + n % 10)) at (decimal n) (ones + 1)
decimal_placed octets at tens ones n room below moved kept goes_on stays =
    elim (cases_lt n 100) [
      | inl small ↦ elim (cases_lt n 10) [
        | inl least ↦ rw (stays least, kept small) (one_digit octets at n room least)
        | inr more ↦ rw (goes_on more, kept small) (two_digits octets at n room more small)
      ]
      | inr great ↦ rw (goes_on (omega arith), moved great) (three_digits octets at n room great below)
    ]
