-- The first bits of an address.
use Rattle.std.proofs.Common.{◌≡◌, ℕ, ◌-◌, ◌*◌, ◌/◌, ◌%◌, ◌^◌, ◌<◌, ◌≤◌, List, [], sym, ap, ◌∙◌, inl, inr, add-zero, arith}
use Rattle.std.specs.Prelude.{nat_lt, if◌then◌else◌}
use Rattle.std.specs.Int.{bit_at}
use Rattle.std.proofs.lemmas.Bool.{cases_lt, cond-true, cond-false, lt-ltb, le-ltb}
use Rattle.std.proofs.lemmas.Nat.Bits.{bit_at_cat_low, bit_at_cat_high, bit_at-zero}
use Rattle.std.proofs.Math.Nat.{div-add-mod', mod-lt, one-le-pow}
use Rattle.byteorder.specs.Endian.{big_number}
use Rattle.byteorder.specs.Numbers.{big_number-reads_back}
use Rattle.ipfix_elements.specs.Prefixes.{address_bit, masked}

-- what is kept is no more than the number
pub kept-le : (n k : ℕ) → n / 2 ^ k * 2 ^ k ≤ n
kept-le n k = omega (arith, div-add-mod' n (2 ^ k))

-- bit j of what is kept when the low k bits are dropped
kept_high : (n k j : ℕ) → k ≤ j → bit_at (n / 2 ^ k * 2 ^ k) j ≡ bit_at n j
kept_high n k j le =
    let positive : 0 < 2 ^ k = omega (arith, one-le-pow k 2 (omega arith)) in
    ap (λ (m : ℕ). bit_at m j) (sym (add-zero (n / 2 ^ k * 2 ^ k)))
    ∙ bit_at_cat_high (n / 2 ^ k) k 0 j positive le
    ∙ sym (bit_at_cat_high (n / 2 ^ k) k (n % 2 ^ k) j (mod-lt n positive) le)
    ∙ ap (λ (m : ℕ). bit_at m j) (div-add-mod' n (2 ^ k))

kept_low : (n k j : ℕ) → j < k → bit_at (n / 2 ^ k * 2 ^ k) j ≡ 0
kept_low n k j lt =
    ap (λ (m : ℕ). bit_at m j) (sym (add-zero (n / 2 ^ k * 2 ^ k))) ∙ bit_at_cat_low (n / 2 ^ k) k 0 j lt ∙ bit_at-zero j

kept_bit : (n bits i : ℕ) → bits ≤ 32 → i < 32 → bit_at (n / 2 ^ (32 - bits) * 2 ^ (32 - bits)) (31 - i) ≡ (if nat_lt i bits then bit_at n (31 - i) else 0)
kept_bit n bits i most within =
    elim (cases_lt i bits) [
      | inl lt ↦ kept_high n (32 - bits) (31 - i) (omega arith) ∙ sym (cond-true (nat_lt i bits) _ _ (lt-ltb i bits lt))
      | inr le ↦ kept_low n (32 - bits) (31 - i) (omega arith) ∙ sym (cond-false (nat_lt i bits) _ _ (le-ltb i bits le))
    ]

-- the bits of a masked address
pub masked_bit : (address : List ℕ) (bits i : ℕ) → big_number 4 address < 2 ^ 32 → bits ≤ 32 → i < 32
    → address_bit (masked address bits) i ≡ (if nat_lt i bits then address_bit address i else 0)
masked_bit address bits i small most within =
    let n = big_number 4 address in
    let back = big_number-reads_back 4 (n / 2 ^ (32 - bits) * 2 ^ (32 - bits)) [] (omega (arith, kept-le n (32 - bits))) in
    ap (λ (m : ℕ). bit_at m (31 - i)) back ∙ kept_bit n bits i most within
