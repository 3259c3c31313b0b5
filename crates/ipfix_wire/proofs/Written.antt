-- What is written is spelled so, and is read again.
use Rattle.std.proofs.Common.{◌≡◌, ℕ, ◌+◌, ◌^◌, ◌<◌, ◌≤◌, Bool, true, false, cond, ltb, eqb, List, ◌++◌, length, Some, Ok, refl, arith, inl, inr}
use Rattle.std.specs.Prelude.{◌⊎◌}
use Rattle.std.proofs.lemmas.Bool.{eqb-true, le-ltb}
use Rattle.byteorder.specs.Endian.{big_bytes}
use Rattle.ipfix_wire.specs.Numbers.{number_at}
use Rattle.ipfix_wire.specs.MessageHeader.{header_octets, header_at}
use Rattle.ipfix_wire.specs.FieldSpecifier.{SpellsSpec, spec_octets, spec_at}
use Rattle.ipfix_wire.specs.declared.header.Header.{Header}
use Rattle.ipfix_wire.specs.declared.specifier.Spec.{Spec}
use Rattle.ipfix_wire.proofs.FieldSpecifiers.{spec_at-only}

-- the two tests of a header that was written
pub header_again : (h : Header) (more : List ℕ) → 16 ≤ h.length → h.length < 2 ^ 16 → h.export_time < 2 ^ 32 → h.sequence < 2 ^ 32 → h.domain < 2 ^ 32
    → header_at (header_octets h ++ more) ≡ Ok h
header_again h more covers length export_time sequence domain =
    let w = header_octets h ++ more in
    let a : number_at 2 2 w ≡ h.length = omega (arith, length) in
    let b : number_at 4 4 w ≡ h.export_time = omega (arith, export_time) in
    let c : number_at 8 4 w ≡ h.sequence = omega (arith, sequence) in
    let d : number_at 12 4 w ≡ h.domain = omega (arith, domain) in
    let long : ltb (number_at 2 2 w) 16 ≡ false = le-ltb (number_at 2 2 w) 16 (omega (arith, a, covers)) in
    rw (long, a, b, c, d) refl

-- the two forms that are written
short_form : Spec → List ℕ
short_form s = big_bytes 2 s.element.number ++ big_bytes 2 s.width

long_form : Spec → List ℕ
long_form s = big_bytes 2 (2 ^ 15 + s.element.number) ++ (big_bytes 2 s.width ++ big_bytes 4 s.element.pen)

form_cases : (s : Spec) → ((s.element.pen ≡ 0) × (spec_octets s ≡ short_form s)) ⊎ (spec_octets s ≡ long_form s)
unfolding short_form long_form
form_cases s = by_test (eqb s.element.pen 0) refl
  where
    by_test : (b : Bool) → eqb s.element.pen 0 ≡ b → ((s.element.pen ≡ 0) × (cond b (short_form s) (long_form s) ≡ short_form s)) ⊎ (cond b (short_form s) (long_form s) ≡ long_form s)
    by_test true e = inl (eqb-true s.element.pen 0 e, refl)
    by_test false e = inr refl

pub spec_spelled : (s : Spec) → s.element.pen < 2 ^ 32 → s.element.number < 2 ^ 15 → s.width < 2 ^ 16 → SpellsSpec s (spec_octets s)
unfolding short_form long_form
spec_spelled s pen number width = record {
  number = number;
  pen = pen;
  width = width;
  octets = elim (form_cases s) [ inl short ↦ inl short | inr long ↦ inr long ];
}

pub spec_again : (s : Spec) (more : List ℕ) → s.element.pen < 2 ^ 32 → s.element.number < 2 ^ 15 → s.width < 2 ^ 16
    → spec_at (spec_octets s ++ more) ≡ Some (s, length (spec_octets s))
spec_again s more pen number width = spec_at-only s (spec_octets s) more (spec_spelled s pen number width)
