-- One field specifier: what is read is spelled, and what is spelled is read.
use Rattle.std.proofs.Common.{◌≡◌, ℕ, ◌+◌, ◌-◌, ◌^◌, ◌<◌, ◌≤◌, true, false, cond, ltb, List, ◌++◌, length, take, Option, Some, None, refl, sym, ap, subst, ◌∙◌, arith, inl, inr}
use Rattle.std.proofs.lemmas.Bool.{ltb-true, ltb-false, le-ltb, lt-ltb}
use Rattle.std.proofs.lemmas.List.{length-append}
use Rattle.byteorder.specs.Endian.{big_bytes, big_number}
use Rattle.ipfix_wire.specs.Numbers.{number_at, IsOctets}
use Rattle.ipfix_wire.specs.FieldSpecifier.{SpellsSpec, spec_at}
use Rattle.ipfix_wire.specs.declared.specifier.Spec.{Spec}
use Rattle.ipfix_wire.proofs.Octets.{IsOctets-drop, short_spec_spelled, long_spec_spelled}
use Rattle.ipfix_wire.proofs.Choices.{chosen}

abbrev spec : ℕ → ℕ → ℕ → Spec
spec pen number width = record { element = record { pen = pen; number = number }; width = width }

abbrev some_spec : Spec → ℕ → Option (Spec × ℕ)
some_spec s used = Some (s, used)

pub record SpecAt (w : List ℕ) (s : Spec) (used : ℕ) : Type 0 where
  pub room : used ≤ length w
  pub is : SpellsSpec s (take used w)

pub short_found : (w : List ℕ) (a b : ℕ) → IsOctets w → 4 ≤ length w → a ≡ big_number 2 w → b ≡ number_at 2 2 w → a < 2 ^ 15 → SpecAt w (spec 0 a b) 4
short_found w a b fits room ea eb below =
    let two = IsOctets-drop 2 w fits in
    record { room = room; is = record { number = below; pen = omega arith; width = omega (arith, eb, two 0, two 1); octets = inl (refl, short_spec_spelled w a b fits room ea eb) } }

pub long_found : (w : List ℕ) (a b c : ℕ) → IsOctets w → 8 ≤ length w → a ≡ big_number 2 w → b ≡ number_at 2 2 w → c ≡ number_at 4 4 w → 2 ^ 15 ≤ a → SpecAt w (spec c (a - 2 ^ 15) b) 8
long_found w a b c fits room ea eb ec high =
    let two = IsOctets-drop 2 w fits in
    let four = IsOctets-drop 4 w fits in
    let k : 2 ^ 15 + (a - 2 ^ 15) ≡ a = omega (arith, high) in
    record {
      room = room;
      is = record {
        number = omega (arith, ea, fits 0, fits 1, high);
        pen = omega (arith, ec, four 0, four 1, four 2, four 3);
        width = omega (arith, eb, two 0, two 1);
        octets = inr (rw k (long_spec_spelled w a b c fits room ea eb ec));
      };
    }

none_some : (s : Spec) (used : ℕ) → None ≡ some_spec s used → ⊥
none_some s used h = cc

as_read : (w : List ℕ) (a s : Spec) (m used : ℕ) → SpecAt w a m → some_spec a m ≡ some_spec s used → SpecAt w s used
as_read w a s m used at h =
    let P : Spec × ℕ → Type 0 = λ p. SpecAt w p.0 p.1 in
    let same : (a, m) ≡ (s, used) = cc in
    subst P same at

pub spec_at-found : (w : List ℕ) (s : Spec) (used : ℕ) → IsOctets w → spec_at w ≡ some_spec s used → SpecAt w s used
spec_at-found w s used fits h =
    let a = big_number 2 w in
    let b = number_at 2 2 w in
    let c = number_at 4 4 w in
    elim (chosen (ltb (length w) 4) None (cond (ltb a (2 ^ 15)) (some_spec (spec 0 a b) 4) (cond (ltb (length w) 8) None (some_spec (spec c (a - 2 ^ 15) b) 8))) (some_spec s used) h) [
      | inl t ↦ absurd (none_some s used t.1)
      | inr f ↦ elim (chosen (ltb a (2 ^ 15)) (some_spec (spec 0 a b) 4) (cond (ltb (length w) 8) None (some_spec (spec c (a - 2 ^ 15) b) 8)) (some_spec s used) f.1) [
        | inl t ↦ as_read w (spec 0 a b) s 4 used (short_found w a b fits (ltb-false (length w) 4 f.0) refl refl (ltb-true a (2 ^ 15) t.0)) t.1
        | inr g ↦ elim (chosen (ltb (length w) 8) None (some_spec (spec c (a - 2 ^ 15) b) 8) (some_spec s used) g.1) [
          | inl t ↦ absurd (none_some s used t.1)
          | inr d ↦ as_read w (spec c (a - 2 ^ 15) b) s 8 used (long_found w a b c fits (ltb-false (length w) 8 d.0) refl refl refl (ltb-false a (2 ^ 15) g.0)) d.1
        ]
      ]
    ]

same_spec : (a b c d e f : ℕ) → a ≡ b → c ≡ d → e ≡ f → spec a c e ≡ spec b d f
same_spec a b c d e f p q r = rw (p, q, r) refl

short_at : (w : List ℕ) (a b : ℕ) → 4 ≤ length w → big_number 2 w ≡ a → number_at 2 2 w ≡ b → a < 2 ^ 15 → spec_at w ≡ some_spec (spec 0 a b) 4
short_at w a b room ea eb below =
    let x : ltb (length w) 4 ≡ false = le-ltb (length w) 4 room in
    let y : ltb (big_number 2 w) (2 ^ 15) ≡ true = lt-ltb (big_number 2 w) (2 ^ 15) (omega (arith, ea, below)) in
    rw (x, y) (ap (λ (s : Spec). some_spec s 4) (same_spec 0 0 (big_number 2 w) a (number_at 2 2 w) b refl ea eb))

long_at : (w : List ℕ) (a b c : ℕ) → 8 ≤ length w → big_number 2 w ≡ 2 ^ 15 + a → number_at 2 2 w ≡ b → number_at 4 4 w ≡ c → spec_at w ≡ some_spec (spec c a b) 8
long_at w a b c room ea eb ec =
    let x : ltb (length w) 4 ≡ false = le-ltb (length w) 4 (omega (arith, room)) in
    let y : ltb (big_number 2 w) (2 ^ 15) ≡ false = le-ltb (big_number 2 w) (2 ^ 15) (omega (arith, ea)) in
    let z : ltb (length w) 8 ≡ false = le-ltb (length w) 8 room in
    let k : big_number 2 w - 2 ^ 15 ≡ a = omega (arith, ea) in
    rw (x, y, z) (ap (λ (s : Spec). some_spec s 8) (same_spec (number_at 4 4 w) c (big_number 2 w - 2 ^ 15) a (number_at 2 2 w) b ec k eb))

abbrev pub short_octets : ℕ → ℕ → List ℕ
short_octets n width = big_bytes 2 n ++ big_bytes 2 width

abbrev pub long_octets : ℕ → ℕ → ℕ → List ℕ
long_octets n width pen = big_bytes 2 (2 ^ 15 + n) ++ (big_bytes 2 width ++ big_bytes 4 pen)

short_again : (n width : ℕ) (r : List ℕ) → n < 2 ^ 15 → width < 2 ^ 16 → spec_at (short_octets n width ++ r) ≡ some_spec (spec 0 n width) 4
short_again n width r below fits =
    let first : big_number 2 (short_octets n width ++ r) ≡ n = omega (arith, below) in
    let second : number_at 2 2 (short_octets n width ++ r) ≡ width = omega (arith, fits) in
    short_at (short_octets n width ++ r) n width (omega (arith, length-append (short_octets n width) r)) first second below

long_again : (n width pen : ℕ) (r : List ℕ) → n < 2 ^ 15 → width < 2 ^ 16 → pen < 2 ^ 32 → spec_at (long_octets n width pen ++ r) ≡ some_spec (spec pen n width) 8
long_again n width pen r below fits small =
    let first : big_number 2 (long_octets n width pen ++ r) ≡ 2 ^ 15 + n = omega (arith, below) in
    let second : number_at 2 2 (long_octets n width pen ++ r) ≡ width = omega (arith, fits) in
    let third : number_at 4 4 (long_octets n width pen ++ r) ≡ pen = omega (arith, small) in
    long_at (long_octets n width pen ++ r) n width pen (omega (arith, length-append (long_octets n width pen) r)) first second third

pub spec_at-only : (s : Spec) (u r : List ℕ) → SpellsSpec s u → spec_at (u ++ r) ≡ some_spec s (length u)
spec_at-only s u r spelled =
    elim spelled.octets [
      | inl short ↦
          let n = s.element.number in
          let same : spec 0 n s.width ≡ s = ap (λ (p : ℕ). spec p n s.width) (sym short.0) in
          rw short.1 (short_again n s.width r spelled.number spelled.width ∙ ap (λ (x : Spec). some_spec x 4) same)
      | inr long ↦ rw long (long_again s.element.number s.width s.element.pen r spelled.number spelled.width spelled.pen)
    ]
