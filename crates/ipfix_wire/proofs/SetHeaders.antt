-- The header of a set: what is read, and what was written.
use Rattle.std.proofs.Common.{◌≡◌, ℕ, ◌+◌, ◌-◌, ◌^◌, ◌<◌, ◌≤◌, false, cond, ltb, List, ◌++◌, length, Result, Ok, Err, refl, sym, ap, ◌∙◌, arith, inl, inr}
use Rattle.std.proofs.lemmas.Bool.{ltb-true, ltb-false, le-ltb}
use Rattle.std.proofs.lemmas.List.{length-append}
use Rattle.byteorder.specs.Endian.{big_number}
use Rattle.ipfix_wire.specs.Numbers.{number_at}
use Rattle.ipfix_wire.specs.SetHeader.{set_octets, set_at}
use Rattle.ipfix_wire.specs.declared.set.SetSpan.{SetSpan}
use Rattle.ipfix_wire.specs.declared.fault.WireFault.{WireFault}
use Rattle.ipfix_wire.specs.declared.fault.WireFault.TheVariants as wire
use Rattle.ipfix_wire.proofs.Choices.{chosen}

abbrev pub span_ok : SetSpan → Result SetSpan WireFault
span_ok s = Ok s

abbrev pub span_err : WireFault → Result SetSpan WireFault
span_err e = Err e

abbrev pub span : ℕ → ℕ → SetSpan
span id body = record { id = id; body = body }

span_is : (a b : SetSpan) → span_ok a ≡ span_ok b → a ≡ b
span_is a b h = cc

pub span_err_is : (a b : WireFault) → span_err a ≡ span_err b → a ≡ b
span_err_is a b h = cc

pub span_not_both : (a : SetSpan) (b : WireFault) → span_ok a ≡ span_err b → ⊥
span_not_both a b h = cc

-- the header of a whole set
pub record SetAt (w : List ℕ) (s : SetSpan) : Type 0 where
  pub room : 4 ≤ length w
  pub size : 4 ≤ number_at 2 2 w
  pub whole : number_at 2 2 w ≤ length w
  pub id : big_number 2 w ≡ s.id
  pub body : number_at 2 2 w - 4 ≡ s.body

-- the tests of a set header
pub by_tests : {A : Type 0} (w : List ℕ) (r : Result SetSpan WireFault) → set_at w ≡ r → (length w < 4 → span_err wire.SetHeader ≡ r → A) → (4 ≤ length w → span_err wire.SetLength ≡ r → A)
    → (4 ≤ length w → 4 ≤ number_at 2 2 w → number_at 2 2 w ≤ length w → span_ok (span (big_number 2 w) (number_at 2 2 w - 4)) ≡ r → A) → A
by_tests w r h cut wrong good =
    let size = number_at 2 2 w in
    let found = span_ok (span (big_number 2 w) (size - 4)) in
    elim (chosen (ltb (length w) 4) (span_err wire.SetHeader) (cond (ltb size 4) (span_err wire.SetLength) (cond (ltb (length w) size) (span_err wire.SetLength) found)) r h) [
      | inl t ↦ cut (ltb-true (length w) 4 t.0) t.1
      | inr f ↦
          let room = ltb-false (length w) 4 f.0 in
          elim (chosen (ltb size 4) (span_err wire.SetLength) (cond (ltb (length w) size) (span_err wire.SetLength) found) r f.1) [
            | inl t ↦ wrong room t.1
            | inr g ↦ elim (chosen (ltb (length w) size) (span_err wire.SetLength) found r g.1) [
              | inl t ↦ wrong room t.1
              | inr d ↦ good room (ltb-false size 4 g.0) (ltb-false (length w) size d.0) d.1
            ]
          ]
    ]

pub set_at-ok : (w : List ℕ) (s : SetSpan) → set_at w ≡ span_ok s → SetAt w s
set_at-ok w s h =
    by_tests w (span_ok s) h (λ short e. absurd (span_not_both s wire.SetHeader (sym e))) (λ long e. absurd (span_not_both s wire.SetLength (sym e)))
    (λ room size whole e.
    let same = span_is (span (big_number 2 w) (number_at 2 2 w - 4)) s e in
    record { room = room; size = size; whole = whole; id = ap (λ (x : SetSpan). x.id) same; body = ap (λ (x : SetSpan). x.body) same })

same_span : (a b c d : ℕ) → a ≡ b → c ≡ d → span_ok (span a (c - 4)) ≡ span_ok (span b (d - 4))
same_span a b c d p q = rw (p, q) refl

set_at-is : (w : List ℕ) (id size : ℕ) → 4 ≤ length w → big_number 2 w ≡ id → number_at 2 2 w ≡ size → 4 ≤ size → size ≤ length w → set_at w ≡ span_ok (span id (size - 4))
set_at-is w id size room i n least whole =
    let a : ltb (length w) 4 ≡ false = le-ltb (length w) 4 room in
    let b : ltb (number_at 2 2 w) 4 ≡ false = le-ltb (number_at 2 2 w) 4 (omega (arith, n, least)) in
    let c : ltb (length w) (number_at 2 2 w) ≡ false = le-ltb (length w) (number_at 2 2 w) (omega (arith, n, whole)) in
    rw (a, b, c) (same_span (big_number 2 w) id (number_at 2 2 w) size i n)

-- a set header that was written is read again, whatever follows it
pub set_at-again : (id n : ℕ) (x : List ℕ) → id < 2 ^ 16 → 4 + n < 2 ^ 16 → n ≤ length x → set_at (set_octets id n ++ x) ≡ span_ok (span id n)
set_at-again id n x small fits room =
    let w = set_octets id n ++ x in
    let len = length-append (set_octets id n) x in
    let back : (4 + n) - 4 ≡ n = omega arith in
    let first : big_number 2 (set_octets id n ++ x) ≡ id = omega (arith, small) in
    let second : number_at 2 2 (set_octets id n ++ x) ≡ 4 + n = omega (arith, fits) in
    set_at-is w id (4 + n) (omega (arith, len)) first second (omega arith) (omega (arith, len, room)) ∙ ap (λ (k : ℕ). span_ok (span id k)) back
