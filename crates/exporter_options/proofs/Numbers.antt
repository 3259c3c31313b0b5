-- Lemmas on numbers in fields and on what is kept.
use Rattle.std.proofs.Common.{◌≡◌, ◌≢◌, ℕ, zero, suc, ◌-◌, ◌<◌, ◌≤◌, ◌^◌, inl, inr, Bool, true, false, ltb, leb, length, List, ◌∷◌, take, filter, find, slice_index, Option, Some, None, refl, sym, ap, ◌∙◌, arith}
use Rattle.std.specs.Option.{option_or}
use Rattle.std.proofs.lemmas.Bool.{cases_Bool, cond-true, cond-false, and_parts, leb-true}
use Rattle.std.proofs.Math.Nat.{pow-le-pow_right}
use Rattle.byteorder.specs.Endian.{big_number}
use Rattle.byteorder.specs.Numbers.{big_from-lt}
use Rattle.ipfix_elements.specs.Values.{is_number_length, number_in}
use Rattle.ipfix_elements.specs.declared.kind.Kind.TheVariants.{Unsigned}
use Rattle.ipfix_elements.specs.declared.kind.Width.TheVariants.{Four}

-- an unsigned number of up to four octets is below 2^32
pub number_fits : (octets : List ℕ) (n : ℕ) → ((k : ℕ) → slice_index octets k < 256) → number_in (Unsigned Four) octets ≡ Some n → n < 2 ^ 32
number_fits octets n small h =
    let long = is_number_length (Unsigned Four) (length octets) in
    elim (cases_Bool long) as (λ _. n < 2 ^ 32) [
      | inl does ↦
          let same : Some (big_number (length octets) octets) ≡ Some n = sym (cond-true long (Some (big_number (length octets) octets)) None does) ∙ h in
          let is : big_number (length octets) octets ≡ n = cc in
          let short : length octets ≤ 4 = leb-true (length octets) 4 (and_parts (ltb 0 (length octets)) (leb (length octets) 4) does).1 in
          let bound : big_number (length octets) octets < 256 ^ length octets = big_from-lt 0 (length octets) octets small in
          omega (arith, is, bound, pow-le-pow_right {n = 256} (omega arith) short)
      | inr doesnt ↦
          let none : None ≡ Some n = sym (cond-false long (Some (big_number (length octets) octets)) None doesnt) ∙ h in
          absurd cc
    ]

-- what the second says where the first says none
pub or_none : {X : Type 0} (a b r : Option X) → None ≡ a → r ≡ b → r ≡ option_or a b
or_none None b r h e = e
or_none (Some x) b r h e = absurd cc

-- what is kept in front of those that are left, of which the last are dropped
pub kept_front : {X : Type 0} (test : X → Bool) (x : X) (n : ℕ) (old left few new : List X) → left ≡ filter test old → few ≡ take n left → new ≡ x ∷ few → new ≡ x ∷ take n (filter test old)
kept_front test x n old left few new is_left is_few is_new = cc

sub_one : (n : ℕ) → suc n - 1 ≡ n
sub_one n = omega arith

-- a search goes on behind an element that does not pass
pub search_on : {X : Type 0} (test : X → Bool) (n : ℕ) (x : X) (xs rest : List X) → xs ≡ x ∷ rest → n ≢ 0 → test x ≡ false → find test (take (n - 1) rest) ≡ find test (take n xs)
search_on test zero x xs rest is some fails = absurd (some refl)
search_on test (suc n) x xs rest is some fails =
    ap (λ k. find test (take k rest)) (sub_one n)
    ∙ sym (cond-false (test x) (Some x) (find test (take n rest)) fails)
    ∙ sym (ap (λ ys. find test (take (suc n) ys)) is)

-- it ends at the first that passes
pub search_ends : {X : Type 0} (test : X → Bool) (n : ℕ) (x : X) (xs rest : List X) → xs ≡ x ∷ rest → n ≢ 0 → test x ≡ true → find test (take n xs) ≡ Some x
search_ends test zero x xs rest is some passes = absurd (some refl)
search_ends test (suc n) x xs rest is some passes = ap (λ ys. find test (take (suc n) ys)) is ∙ cond-true (test x) (Some x) (find test (take n rest)) passes
