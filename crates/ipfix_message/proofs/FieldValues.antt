-- The octets of one field.
use Rattle.std.proofs.Common.{◌≡◌, ℕ, ◌+◌, ◌≤◌, false, cond, ltb, eqb, List, ◌++◌, length, take, drop, Option, Some, Ok, Err, refl, sym, ap, subst, ◌∙◌, append_assoc, arith, inl, inr}
use Rattle.std.specs.Prelude.{◌⊎◌, ◌≢◌}
use Rattle.std.proofs.lemmas.Bool.{ltb-false, le-ltb, eqb-true, eqb-false}
use Rattle.std.proofs.lemmas.List.{length-append, length-take, length-drop, take_at, drop_at, take-append-drop}
use Rattle.ipfix_wire.specs.VariableLength.{SpellsLength, length_at}
use Rattle.ipfix_wire.specs.Numbers.{IsOctets}
use Rattle.ipfix_message.specs.declared.fault.MessageFault.{MessageFault}
use Rattle.ipfix_message.specs.declared.fault.MessageFault.TheVariants.{RecordCut}
use Rattle.ipfix_message.specs.SpelledFields.{SpellsOctets, octets_at, variable_at, value_at}
use Rattle.ipfix_wire.proofs.Parts.{Spelled}
use Rattle.ipfix_wire.proofs.Choices.{different, chosen, cases_option}
use Rattle.ipfix_wire.proofs.Lengths.{length_at-used, length_at-found, length_at-only}
use Rattle.ipfix_message.proofs.Reading.{ok_is, not_both, fault_is}

-- r is the end of w
abbrev pub EndsWith : List ℕ → List ℕ → Type 0
EndsWith w r = (front : List ℕ) × (w ≡ front ++ r)

-- what a width counts at least
abbrev pub least_of : ℕ → ℕ
least_of width = cond (eqb width 65535) 1 width

-- ---- octets of a length

-- what octets_at took
pub record Cuts (n : ℕ) (w v r : List ℕ) : Type 0 where
  pub room : n ≤ length w
  pub front : v ≡ take n w
  pub back : r ≡ drop n w

octets_at-ok : (n : ℕ) (w v r : List ℕ) → octets_at n w ≡ Ok (v, r) → Cuts n w v r
octets_at-ok n w v r h =
    elim (chosen (ltb (length w) n) (Err RecordCut) (Ok (take n w, drop n w)) (Ok (v, r)) h) [
      | inl t ↦ absurd (not_both (v, r) RecordCut (sym t.1))
      | inr f ↦ let e = ok_is (take n w, drop n w) (v, r) f.1 in record {
        room = ltb-false (length w) n f.0;
        front = sym (ap (λ (p : List ℕ × List ℕ). p.0) e);
        back = sym (ap (λ (p : List ℕ × List ℕ). p.1) e);
      }
    ]

octets_at-fault : (n : ℕ) (w : List ℕ) (e : MessageFault) → octets_at n w ≡ Err e → e ≡ RecordCut
octets_at-fault n w e h =
    elim (chosen (ltb (length w) n) (Err RecordCut) (Ok (take n w, drop n w)) (Err e) h) [
      | inl t ↦ sym (fault_is RecordCut e t.1)
      | inr f ↦ absurd (not_both (take n w, drop n w) e f.1)
    ]

octets_at-only : (v r : List ℕ) → octets_at (length v) (v ++ r) ≡ Ok (v, r)
octets_at-only v r = rw (le-ltb (length (v ++ r)) (length v) (omega (arith, length-append v r)), take_at v r (length v) refl, drop_at v r (length v) refl) refl

-- ---- a field of a width

-- the two forms of a field
abbrev Variable : ℕ → List ℕ → List ℕ → List ℕ → Type 0
Variable width w v r = (width ≡ 65535) × ((n : ℕ) × (used : ℕ) × (length_at w ≡ Some (n, used)) × Cuts n (drop used w) v r)

value_at-cases : (width : ℕ) (w v r : List ℕ) → value_at width w ≡ Ok (v, r) → Variable width w v r ⊎ ((width ≢ 65535) × Cuts width w v r)
unfolding value_at
value_at-cases width w v r h =
    elim (chosen (eqb width 65535) (variable_at (length_at w) w) (octets_at width w) (Ok (v, r)) h) [
      | inl t ↦ elim (cases_option (length_at w)) [
        | inl none ↦ absurd (not_both (v, r) RecordCut (sym t.1 ∙ ap (λ (o : Option (ℕ × ℕ)). variable_at o w) none))
        | inr some ↦ inl (eqb-true width 65535 t.0, (some.0.0, some.0.1, some.1, octets_at-ok some.0.0 (drop some.0.1 w) v r (sym (ap (λ (o : Option (ℕ × ℕ)). variable_at o w) some.1) ∙ t.1)))
      ]
      | inr f ↦ inr (eqb-false width 65535 f.0, octets_at-ok width w v r f.1)
    ]

-- what follows a field is the end of the text
pub value_at-end : (width : ℕ) (w v r : List ℕ) → value_at width w ≡ Ok (v, r) → EndsWith w r
value_at-end width w v r h =
    elim (value_at-cases width w v r h) [
      | inl long ↦
          let n = long.1.0 in
          let used = long.1.1 in
          let rest : drop used w ≡ take n (drop used w) ++ r = sym (take-append-drop n (drop used w)) ∙ ap (λ (t : List ℕ). take n (drop used w) ++ t) (sym long.1.3.back) in
          (take used w ++ take n (drop used w), sym (take-append-drop used w) ∙ ap (λ (t : List ℕ). take used w ++ t) rest ∙ sym (append_assoc (take used w) (take n (drop used w)) r))
      | inr short ↦ (take width w, sym (take-append-drop width w) ∙ ap (λ (t : List ℕ). take width w ++ t) (sym short.1.back))
    ]

pub value_at-takes : (width : ℕ) (w v r : List ℕ) → value_at width w ≡ Ok (v, r) → length r + least_of width ≤ length w
value_at-takes width w v r h =
    elim (value_at-cases width w v r h) [
      | inl long ↦
          let cuts = long.1.3 in
          let used = length_at-used w long.1.0 long.1.1 long.1.2 in
          rw (long.0, cuts.back) (omega (arith, length-drop {A = ℕ}, used.least, used.room, cuts.room))
      | inr short ↦
          let no : eqb width 65535 ≡ false = different width 65535 short.0 in
          rw (no, short.1.back) (omega (arith, length-drop {A = ℕ}, short.1.room))
    ]

pub value_at-fault : (width : ℕ) (w : List ℕ) (e : MessageFault) → value_at width w ≡ Err e → e ≡ RecordCut
unfolding value_at
value_at-fault width w e h =
    elim (chosen (eqb width 65535) (variable_at (length_at w) w) (octets_at width w) (Err e) h) [
      | inl t ↦ elim (cases_option (length_at w)) [
        | inl none ↦ fault_is e RecordCut (sym t.1 ∙ ap (λ (o : Option (ℕ × ℕ)). variable_at o w) none)
        | inr some ↦ octets_at-fault some.0.0 (drop some.0.1 w) e (sym (ap (λ (o : Option (ℕ × ℕ)). variable_at o w) some.1) ∙ t.1)
      ]
      | inr f ↦ octets_at-fault width w e f.1
    ]

pub value_at-found : (width : ℕ) (w v r : List ℕ) → IsOctets w → value_at width w ≡ Ok (v, r) → Spelled (SpellsOctets width) w v r
value_at-found width w v r fits h =
    elim (value_at-cases width w v r h) [
      | inl long ↦
          let cuts = long.1.3 in
          let n = long.1.0 in
          let used = long.1.1 in
          let head = take used w in
          let len : length v ≡ n = rw cuts.front (omega (arith, length-take {A = ℕ}, cuts.room)) in
          let whole : w ≡ (head ++ v) ++ r = sym (take-append-drop used w) ∙ ap (λ (t : List ℕ). head ++ t) (sym (take-append-drop n (drop used w)) ∙ ap (λ (t : List ℕ). t ++ drop n (drop used w)) (sym cuts.front) ∙ ap (λ (t : List ℕ). v ++ t) (sym cuts.back)) ∙ sym (append_assoc head v r) in
          record { text = head ++ v; whole = whole; is = inr (long.0, (head, subst (λ (k : ℕ). SpellsLength k head) (sym len) (length_at-found w n used fits long.1.2), refl)) }
      | inr short ↦
          let cuts = short.1 in
          let whole : w ≡ v ++ r = sym (take-append-drop width w) ∙ ap (λ (t : List ℕ). t ++ drop width w) (sym cuts.front) ∙ ap (λ (t : List ℕ). v ++ t) (sym cuts.back) in
          record { text = v; whole = whole; is = inl (short.0, rw cuts.front (omega (arith, length-take {A = ℕ}, cuts.room)), refl) }
    ]

pub value_at-only : (width : ℕ) (v u r : List ℕ) → SpellsOctets width v u → value_at width (u ++ r) ≡ Ok (v, r)
unfolding value_at
value_at-only width v u r (inl fixed) =
    let no : eqb width 65535 ≡ false = different width 65535 fixed.0 in
    rw (no, fixed.2, ← fixed.1) (octets_at-only v r)
value_at-only width v u r (inr variable) =
    let head = variable.1.0 in
    let regrouped : u ++ r ≡ head ++ (v ++ r) = ap (λ (t : List ℕ). t ++ r) variable.1.2 ∙ append_assoc head v r in
    let at : length_at (head ++ (v ++ r)) ≡ Some (length v, length head) = length_at-only (length v) head (v ++ r) variable.1.1 in
    let back : drop (length head) (head ++ (v ++ r)) ≡ v ++ r = drop_at head (v ++ r) (length head) refl in
    rw (variable.0, regrouped, at, back) (octets_at-only v r)
