-- The fields of one record.
use Rattle.std.proofs.Common.{◌≡◌, ℕ, ◌+◌, ◌<◌, ◌≤◌, List, [], ◌∷◌, ◌++◌, length, Ok, Err, refl, sym, ap, subst, ◌∙◌, append_assoc, arith, inl, inr}
use Rattle.ipfix_wire.specs.Numbers.{IsOctets}
use Rattle.ipfix_wire.proofs.Octets.{IsOctets-rest}
use Rattle.ipfix_wire.specs.declared.specifier.Spec.{Spec}
use Rattle.ipfix_wire.specs.declared.specifier.ElementId.{ElementId}
use Rattle.ipfix_message.specs.declared.fault.MessageFault.{MessageFault}
use Rattle.ipfix_message.specs.declared.fault.MessageFault.TheVariants.{RecordCut}
use Rattle.ipfix_message.specs.Fields.{Field}
use Rattle.ipfix_message.specs.Outcome.{◌>>=◌}
use Rattle.ipfix_message.specs.SpelledFields.{Spells, least, value_at, fields_at}
use Rattle.ipfix_wire.proofs.Parts.{cases_read, Shrinks, Reads, Spelled}
use Rattle.ipfix_message.proofs.Reading.{ok_is, not_both, bind_ok, bind_err}
use Rattle.ipfix_message.proofs.FieldValues.{value_at-takes, value_at-fault, value_at-found, value_at-only}

pub fields_at-takes : (specs : List Spec) (w : List ℕ) (fs : List Field) (r : List ℕ) → fields_at specs w ≡ Ok (fs, r) → length r + least specs ≤ length w
unfolding fields_at
fields_at-takes [] w fs r h = let e = ok_is ([], w) (fs, r) h in let same : w ≡ r = ap (λ (p : List Field × List ℕ). p.1) e in omega (arith, ap length same)
fields_at-takes (s ∷ ss) w fs r h =
    let a = bind_ok (value_at s.width w) (λ first. fields_at ss first.1 >>= λ others. Ok (record { element = s.element; octets = first.0 } ∷ others.0, others.1)) (fs, r) h in
    let b = bind_ok (fields_at ss a.0.1) (λ others. Ok (record { element = s.element; octets = a.0.0 } ∷ others.0, others.1)) (fs, r) a.2 in
    let first = value_at-takes s.width w a.0.0 a.0.1 a.1 in
    let more = fields_at-takes ss a.0.1 b.0.0 b.0.1 b.1 in
    let e = ok_is (record { element = s.element; octets = a.0.0 } ∷ b.0.0, b.0.1) (fs, r) b.2 in
    let same : b.0.1 ≡ r = ap (λ (p : List Field × List ℕ). p.1) e in
    omega (arith, first, more, ap length same)

pub fields_at-fault : (specs : List Spec) (w : List ℕ) (e : MessageFault) → fields_at specs w ≡ Err e → e ≡ RecordCut
unfolding fields_at
fields_at-fault [] w e h = absurd (not_both ([], w) e h)
fields_at-fault (s ∷ ss) w e h =
    elim (bind_err (value_at s.width w) (λ first. fields_at ss first.1 >>= λ others. Ok (record { element = s.element; octets = first.0 } ∷ others.0, others.1)) e h) [
      | inl here ↦ value_at-fault s.width w e here
      | inr later ↦ elim (bind_err (fields_at ss later.0.1) (λ others. Ok (record { element = s.element; octets = later.0.0 } ∷ others.0, others.1)) e later.2) [
        | inl there ↦ fields_at-fault ss later.0.1 e there
        | inr none ↦ absurd (not_both (record { element = s.element; octets = later.0.0 } ∷ none.0.0, none.0.1) e none.2)
      ]
    ]

pub fields_at-found : (specs : List Spec) (w : List ℕ) (fs : List Field) (r : List ℕ) → IsOctets w → fields_at specs w ≡ Ok (fs, r) → Spelled (Spells specs) w fs r
unfolding fields_at
fields_at-found [] w fs r fits h =
    subst (λ (p : List Field × List ℕ). Spelled (Spells []) w p.0 p.1) (ok_is ([], w) (fs, r) h) (record { text = []; whole = refl; is = refl })
fields_at-found (s ∷ ss) w fs r fits h =
    let a = bind_ok (value_at s.width w) (λ first. fields_at ss first.1 >>= λ others. Ok (record { element = s.element; octets = first.0 } ∷ others.0, others.1)) (fs, r) h in
    let b = bind_ok (fields_at ss a.0.1) (λ others. Ok (record { element = s.element; octets = a.0.0 } ∷ others.0, others.1)) (fs, r) a.2 in
    let first = value_at-found s.width w a.0.0 a.0.1 fits a.1 in
    let more = fields_at-found ss a.0.1 b.0.0 b.0.1 (IsOctets-rest first.text a.0.1 (subst IsOctets first.whole fits)) b.1 in
    let whole : w ≡ (first.text ++ more.text) ++ b.0.1 = first.whole ∙ ap (λ (t : List ℕ). first.text ++ t) more.whole ∙ sym (append_assoc first.text more.text b.0.1) in
    subst (λ (p : List Field × List ℕ). Spelled (Spells (s ∷ ss)) w p.0 p.1)
    (ok_is (record { element = s.element; octets = a.0.0 } ∷ b.0.0, b.0.1) (fs, r) b.2)
    (record { text = first.text ++ more.text; whole = whole; is = (first.text, more.text, refl, refl, first.is, more.is) })

pub fields_at-only : (specs : List Spec) (fs : List Field) (u r : List ℕ) → Spells specs fs u → fields_at specs (u ++ r) ≡ Ok (fs, r)
unfolding fields_at
fields_at-only [] [] u r spelled = rw spelled refl
fields_at-only [] (f ∷ fs) u r spelled = absurd spelled
fields_at-only (s ∷ ss) [] u r spelled = absurd spelled
fields_at-only (s ∷ ss) (f ∷ fs) u r spelled =
    let a = spelled.0 in
    let b = spelled.1 in
    let regrouped : u ++ r ≡ a ++ (b ++ r) = ap (λ (t : List ℕ). t ++ r) spelled.2 ∙ append_assoc a b r in
    let same : record { element = s.element; octets = f.octets } ≡ f = ap (λ (e : ElementId). record { element = e; octets = f.octets }) (sym spelled.3) in
    rw (regrouped, value_at-only s.width f.octets a (b ++ r) spelled.4, fields_at-only ss fs b r spelled.5) (ap (λ (g : Field). Ok (g ∷ fs, r)) same)

pub fields_read : (specs : List Spec) → Reads (Spells specs) (fields_at specs)
fields_read specs = record { found = λ w fs r fits h. fields_at-found specs w fs r fits h; only = λ fs u r spelled. fields_at-only specs fs u r spelled }

pub fields_shrink : (specs : List Spec) → 0 < least specs → Shrinks (fields_at specs)
fields_shrink specs positive = record { less = λ w fs r h. let t = fields_at-takes specs w fs r h in omega (arith, t, positive) }

-- fewer octets than the least length hold no record
pub fields_at-short : (specs : List Spec) (w : List ℕ) → length w < least specs → fields_at specs w ≡ Err RecordCut
fields_at-short specs w short =
    elim (cases_read (fields_at specs w)) [
      | inl found ↦ let t = fields_at-takes specs w found.0.0 found.0.1 found.1 in absurd (omega (arith, t))
      | inr none ↦ none.1 ∙ ap (λ (e : MessageFault). Err e) (fields_at-fault specs w none.0 none.1)
    ]
