-- How many digits a number has, and numbers that are put to a place.
use Rattle.std.proofs.Common.{◌≡◌, ℕ, zero, suc, ◌+◌, ◌*◌, ◌/◌, ◌%◌, ◌^◌, ◌<◌, ◌≤◌, List, [], ◌∷◌, ◌++◌, length, take, drop, refl, ap, sym, ◌∙◌, arith, length-append, length-take, length-drop, take-add, take_at}
use Rattle.std.specs.Fmt.{decimal}
use Rattle.std.proofs.Math.Nat.{pow-succ'}
use Rattle.std.proofs.Math.Seq.{drop-append_seam}
use Rattle.std.proofs.lemmas.List.{drop-drop}
use Rattle.std.proofs.lemmas.Fmt.{decimal_nonempty, decimal_step, length-decimal-le}
use Rattle.ipfix_elements.specs.Placed.{Placed}

pos-pow : (k : ℕ) → 0 < 10 ^ k
pos-pow zero = omega arith
pos-pow (suc k) = omega (arith, pow-succ' 10 k, pos-pow k)

-- from 10 ^ k on, a number has more than k digits
length-decimal-above : (k n : ℕ) → 10 ^ k ≤ n → n < 2 ^ 64 → k < length (decimal n)
length-decimal-above zero n from below = decimal_nonempty n below
length-decimal-above (suc k) n from below =
    let ten : 10 ≤ n = omega (arith, pow-succ' 10 k, from, pos-pow k) in
    let more = length-decimal-above k (n / 10) (omega (arith, pow-succ' 10 k, from)) (omega arith) in
    rw (decimal_step n ten below) (omega (arith, length-append (decimal (n / 10)) ((48 + n % 10) ∷ []), more))

-- by the whole logarithm of base 10
pub length-decimal : (k n : ℕ) → 10 ^ k ≤ n → n < 10 * 10 ^ k → n < 2 ^ 64 → k + 1 ≡ length (decimal n)
length-decimal k n from to below = omega (arith, length-decimal-above k n from below, length-decimal-le (suc k) n (omega arith) (omega (arith, pow-succ' 10 k, to)) below)

-- digits that were written from the place to their end
pub Placed-digits : {a b : List ℕ} (digits : List ℕ) (at end : ℕ) → end ≡ at + length digits → end ≤ length a → drop at b ≡ digits ++ drop end a → take at b ≡ take at a
    → Placed a b at digits end
Placed-digits {a} {b} digits at end moved fits written before =
    record {
      written = ap (λ n. take n b) moved ∙ take-add at (length digits) b ∙ (λ k. before k ++ (ap (take (length digits)) written ∙ take_at digits (drop end a) (length digits) refl) k);
      behind = ap (λ n. drop n b) moved ∙ sym (drop-drop (length digits) at b) ∙ ap (drop (length digits)) written ∙ drop-append_seam digits (drop end a);
      moved = moved;
      room = omega (arith, ap length written, ap length before, length-append digits (drop end a), length-drop at b, length-drop end a, length-take at b, length-take at a);
    }
