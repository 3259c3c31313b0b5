-- Fields have the elements of the specifiers that they are read by.
use Rattle.std.proofs.Common.{◌≡◌, ℕ, Bool, true, false, List, [], ◌∷◌, Ok, None, refl, sym, ap, subst, ◌∙◌, inl, inr}
use Rattle.std.specs.Prelude.{◌||◌}
use Rattle.std.specs.List.{list_any}
use Rattle.ipfix_wire.proofs.Parts.{cases_read}
use Rattle.ipfix_wire.specs.declared.specifier.Spec.{Spec}
use Rattle.ipfix_wire.specs.declared.specifier.ElementId.{ElementId}
use Rattle.ipfix_message.specs.Fields.{Field, octets_of, same_element}
use Rattle.ipfix_message.specs.Outcome.{◌>>=◌}
use Rattle.ipfix_message.specs.SpelledFields.{value_at, fields_at, fields_in}
use Rattle.ipfix_message.proofs.Reading.{ok_is, bind_ok}
use Rattle.ipfix_message.proofs.SpelledFields.{fields_in-read}

-- no specifier is of an element
abbrev has_none : ElementId → List Spec → Type 0
has_none e ss = list_any (λ (s : Spec). same_element s.element e) ss ≡ false

none_read : (ss : List Spec) (w : List ℕ) (fs : List Field) (r : List ℕ) (e : ElementId) → fields_at ss w ≡ Ok (fs, r) → has_none e ss → octets_of e fs ≡ None
unfolding fields_at
none_read [] w fs r e h none = let same : [] ≡ fs = ap (λ (p : List Field × List ℕ). p.0) (ok_is ([], w) (fs, r) h) in subst (λ gs. octets_of e gs ≡ None) same refl
none_read (s ∷ ss) w fs r e h none =
    let a = bind_ok (value_at s.width w) (λ first. fields_at ss first.1 >>= λ others. Ok (record { element = s.element; octets = first.0 } ∷ others.0, others.1)) (fs, r) h in
    let b = bind_ok (fields_at ss a.0.1) (λ others. Ok (record { element = s.element; octets = a.0.0 } ∷ others.0, others.1)) (fs, r) a.2 in
    let same : record { element = s.element; octets = a.0.0 } ∷ b.0.0 ≡ fs = ap (λ (p : List Field × List ℕ). p.0) (ok_is (record { element = s.element; octets = a.0.0 } ∷ b.0.0, b.0.1) (fs, r) b.2) in
    let others : Bool = list_any (λ (t : Spec). same_element t.element e) ss in
    subst (λ gs. octets_of e gs ≡ None) same
    (elim (same_element s.element e) as (λ (x : Bool). same_element s.element e ≡ x → octets_of e (record { element = s.element; octets = a.0.0 } ∷ b.0.0) ≡ None) [
      | true ↦ λ is. let t : true ≡ false = sym (ap (λ (x : Bool). x || others) is) ∙ none in absurd (cc)
      | false ↦ λ is. rw is (none_read ss a.0.1 b.0.0 b.0.1 e b.1 (sym (ap (λ (x : Bool). x || others) is) ∙ none))
    ] refl)

pub none_of : (ss : List Spec) (w : List ℕ) (e : ElementId) → has_none e ss → octets_of e (fields_in ss w) ≡ None
none_of ss w e none =
    elim (cases_read (fields_at ss w)) [
      | inl found ↦ rw (fields_in-read ss w found.0.0 found.0.1 found.1) (none_read ss w found.0.0 found.0.1 e found.1 none)
      | inr cut ↦ rw (cut.1, fields_in) refl
    ]
