-- The length that a variable-length field begins with: what is read is spelled, and what is spelled is read.
use Rattle.std.proofs.Common.{◌≡◌, ℕ, ◌^◌, ◌<◌, ◌≤◌, Bool, false, cond, ltb, eqb, List, [], ◌∷◌, ◌++◌, length, take, Option, Some, None, refl, sym, ap, ◌∙◌, arith, inl, inr}
use Rattle.std.specs.Prelude.{◌⊎◌, ◌≢◌}
use Rattle.std.proofs.lemmas.Bool.{ltb-false, le-ltb, eqb-true, eqb-false}
use Rattle.std.proofs.lemmas.List.{length-append}
use Rattle.ipfix_wire.specs.VariableLength.{SpellsLength, length_at}
use Rattle.ipfix_wire.specs.Numbers.{IsOctets}
use Rattle.ipfix_wire.proofs.Octets.{octets_2, IsOctets-rest}
use Rattle.byteorder.specs.Endian.{big_bytes, big_number}
use Rattle.ipfix_wire.proofs.Choices.{different, chosen}

abbrev some_pair : ℕ → ℕ → Option (ℕ × ℕ)
some_pair n used = Some (n, used)

abbrev Both : ℕ → ℕ → ℕ × ℕ
Both a b = (a, b)

some_is : (a b c d : ℕ) → some_pair a b ≡ some_pair c d → (a ≡ c) × (b ≡ d)
some_is a b c d e = let p : Both a b ≡ Both c d = cc in (ap (λ (p : ℕ × ℕ). p.0) p, ap (λ (p : ℕ × ℕ). p.1) p)

-- how many octets a length takes
pub record Used (w : List ℕ) (used : ℕ) : Type 0 where
  pub least : 1 ≤ used
  pub room : used ≤ length w

-- the two forms
pub length_at-cases : (b : ℕ) (w : List ℕ) (n used : ℕ) → length_at (b ∷ w) ≡ Some (n, used)
    → ((b ≡ 255) × (2 ≤ length w) × (big_number 2 w ≡ n) × (3 ≡ used)) ⊎ ((b ≢ 255) × (b ≡ n) × (1 ≡ used))
length_at-cases b w n used h =
    elim (chosen (eqb b 255) (cond (ltb (length w) 2) None (Some (big_number 2 w, 3))) (Some (b, 1)) (Some (n, used)) h) [
      | inl t ↦ elim (chosen (ltb (length w) 2) None (Some (big_number 2 w, 3)) (Some (n, used)) t.1) [
        | inl cut ↦ absurd cc
        | inr long ↦ let e = some_is (big_number 2 w) 3 n used long.1 in inl (eqb-true b 255 t.0, ltb-false (length w) 2 long.0, e.0, e.1)
      ]
      | inr f ↦ let e = some_is b 1 n used f.1 in inr (eqb-false b 255 f.0, e.0, e.1)
    ]

pub length_at-used : (w : List ℕ) (n used : ℕ) → length_at w ≡ Some (n, used) → Used w used
length_at-used [] n used h = absurd cc
length_at-used (b ∷ w) n used h =
    elim (length_at-cases b w n used h) [
      | inl long ↦ record { least = omega (arith, long.3); room = omega (arith, long.3, long.1) }
      | inr short ↦ record { least = omega (arith, short.2); room = omega (arith, short.2) }
    ]

pub length_at-found : (w : List ℕ) (n used : ℕ) → IsOctets w → length_at w ≡ Some (n, used) → SpellsLength n (take used w)
length_at-found [] n used fits h = absurd cc
length_at-found (b ∷ w) n used fits h =
    elim (length_at-cases b w n used h) [
      | inl long ↦
          let rest = IsOctets-rest (b ∷ []) w fits in
          let below : n < 2 ^ 16 = omega (arith, long.2, rest 0, rest 1) in
          let two = octets_2 w n rest long.1 (sym long.2) in
          rw (← long.3, long.0) (inr (below, ap (λ (t : List ℕ). 255 ∷ t) two))
      | inr short ↦ rw (← short.2, ← short.1) (inl (omega (arith, fits 0, short.0), refl))
    ]

pub length_at-only : (n : ℕ) (head r : List ℕ) → SpellsLength n head → length_at (head ++ r) ≡ Some (n, length head)
length_at-only n head r (inl short) =
    let no : eqb n 255 ≡ false = different n 255 (λ e. omega (arith, e, short.0)) in
    rw (short.1, no) refl
length_at-only n head r (inr long) =
    let back : big_number 2 (big_bytes 2 n ++ r) ≡ n = omega (arith, long.0) in
    let room : ltb (length (big_bytes 2 n ++ r)) 2 ≡ false = le-ltb (length (big_bytes 2 n ++ r)) 2 (omega (arith, length-append (big_bytes 2 n) r)) in
    rw long.1 (ap (λ (b : Bool). cond b None (Some (big_number 2 (big_bytes 2 n ++ r), 3))) room ∙ ap (λ (k : ℕ). some_pair k 3) back)
